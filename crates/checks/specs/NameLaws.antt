-- Names written one by one over zeros.
use Rattle.std.specs.Prelude.{◌≡◌, refl, List, [], ◌∷◌, ◌++◌, ℕ, zero, suc, ◌+◌, ◌-◌, ◌≤◌, ◌<◌, length, get_or, set, take, replicate}
use Rattle.std.proofs.Common.{sym, ap, subst, ◌∙◌, not-suc-le-zero, le_of_suc-le-suc, arith, add-one, length-append, length-set, take_all, length-take-le}
use Rattle.std.proofs.lemmas.List.{length-replicate}

-- the first n of xs, and zeros up to `size`
abbrev pub written : List ℕ → ℕ → ℕ → List ℕ
written xs size n = take n xs ++ replicate (size - n) 0

module _ (xs : List ℕ) (size : ℕ) where
  pub written_start : replicate size 0 ≡ written xs size 0
  written_start = let e : size - 0 ≡ size = omega arith in rw e

  pub written_more : (n v : ℕ) → n < length xs → n < size → v ≡ get_or xs n 0 → set (written xs size n) n v ≡ written xs size (n + 1)
  written_more n v h l e =
      let s : size - n ≡ suc (size - (n + 1)) = omega arith in
      ap (set (written xs size n) n) e ∙ ap (λ (k : ℕ). set (take n xs ++ replicate k 0) n (get_or xs n 0)) s ∙ go xs n (size - (n + 1)) h
      ∙ ap (λ (k : ℕ). take k xs ++ replicate (size - (n + 1)) 0) (sym (add-one n))
    where
      go : (ys : List ℕ) (n m : ℕ) → n < length ys → set (take n ys ++ replicate (suc m) 0) n (get_or ys n 0) ≡ take (suc n) ys ++ replicate m 0
      go [] n m l = absurd (not-suc-le-zero l)
      go (y ∷ ys) zero m l = refl
      go (y ∷ ys) (suc n) m l = ap (λ (t : List ℕ). y ∷ t) (go ys n m (le_of_suc-le-suc l))

  pub written_end : (n : ℕ) → length xs ≡ n → written xs size n ≡ xs ++ replicate (size - length xs) 0
  written_end n e = rw (sym e) (ap (λ (t : List ℕ). t ++ replicate (size - length xs) 0) (take_all (length xs) xs (omega arith)))

  pub written_length : (n : ℕ) → n ≤ length xs → n ≤ size → length (written xs size n) ≡ size
  written_length n h l =
      omega (arith, length-append (take n xs) (replicate (size - n) 0), length-take-le n xs h, length-replicate {A = ℕ} (size - n) 0)

-- the first k of xs are written into ns, over zeros
pub record Naming (xs : List ℕ) (size : ℕ) (ns : List ℕ) (k : ℕ) : Type 0 where
  pub is : ns ≡ written xs size k
  pub kept : length ns ≡ size

module _ (xs : List ℕ) (size : ℕ) (ns : List ℕ) where
  pub naming_start : ns ≡ replicate size 0 → Naming xs size ns 0
  naming_start e = record { is = e ∙ written_start xs size; kept = ap length e ∙ length-replicate {A = ℕ} size 0 }

  module _ (k : ℕ) (N : Naming xs size ns k) where
    pub naming_more : (v : ℕ) (ms : List ℕ) → k < length xs → k < size → v ≡ get_or xs k 0 → ms ≡ set ns k v → Naming xs size ms (k + 1)
    naming_more v ms h l d e = record {
      is = e ∙ ap (λ (t : List ℕ). set t k v) N.is ∙ written_more xs size k v h l d;
      kept = ap length e ∙ length-set ns k v ∙ N.kept;
    }

    -- counted by the names themselves
    pub naming_here : Naming xs (length ns) ns k
    naming_here = subst (λ (n : ℕ). Naming xs n ns k) (sym N.kept) N

    pub naming_end : length xs ≡ k → ns ≡ xs ++ replicate (size - length xs) 0
    naming_end e = N.is ∙ written_end xs size k e
