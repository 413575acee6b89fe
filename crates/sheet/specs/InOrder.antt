-- Records with a key and a period each, in order of key and then of time: the periods of any one key are in order. Once for W records by weekday and E records by day.
use Rattle.std.specs.Prelude.{◌≡◌, refl, true, false, ◌⊎◌, List, [], ◌∷◌, ◌++◌, eqb, replicate}
use Rattle.std.proofs.Common.{ap, inl, inr, eq-eqb, ne_eqb}
use Rattle.std.proofs.Math.Logic.{⊎_elim}
use Prim.Native.Nat.{ℕ, zero, suc, max, ◌≤◌, ◌<◌}
use native.Mathlib.Omega.{arith}
use Rattle.number.specs.Order.{lt_or_le, eq_or_ne}
use Rattle.calendar.specs.declared.Period.{Period}
use Rattle.calendar.specs.Hours.{none, Ordered}

-- ---- one more period at the end
-- where the last period ends
abbrev end_of : ℕ → List Period → ℕ
end_of a [] = a
end_of a (p ∷ ps) = end_of (max a p.to) ps

end_more : (a : ℕ) (ps : List Period) (p : Period) → end_of a (ps ++ (p ∷ [])) ≡ max (end_of a ps) p.to
end_more a [] p = refl
end_more a (q ∷ ps) p = end_more (max a q.to) ps p

ordered_more : (a : ℕ) (ps : List Period) (p : Period) → Ordered a ps → p.to ≤ 1440 → (0 < p.to → (end_of a ps ≤ p.from) × (p.from < p.to))
    → Ordered a (ps ++ (p ∷ []))
ordered_more a [] p o m h = (m, h, tt)
ordered_more a (q ∷ ps) p o m h = (o.0, o.1, ordered_more (max a q.to) ps p o.2 m h)

-- empty periods at the end change nothing
ordered_none : (a n : ℕ) → Ordered a (replicate n none)
ordered_none a zero = tt
ordered_none a (suc n) = (omega arith, λ l. absurd (omega arith), ordered_none (max a 0) n)

pub ordered_pad : (a : ℕ) (ps : List Period) (n : ℕ) → Ordered a ps → Ordered a (ps ++ replicate n none)
ordered_pad a [] n o = ordered_none a n
ordered_pad a (p ∷ ps) n o = (o.0, o.1, ordered_pad (max a p.to) ps n o.2)

-- ---- the periods of key k among the first n records
unfoldable pub chosen : (ℕ → ℕ) → (ℕ → Period) → ℕ → ℕ → List Period
chosen key period k zero = []
chosen key period k (suc i) = elim (eqb (key i) k) [ true ↦ chosen key period k i ++ (period i ∷ []) | false ↦ chosen key period k i ]

module _ (key : ℕ → ℕ) (period : ℕ → Period) (k i : ℕ) where
  pub chosen_take : key i ≡ k → chosen key period k (suc i) ≡ chosen key period k i ++ (period i ∷ [])
  unfolding chosen
  chosen_take e = rw (eq-eqb (key i) k e, chosen)

  pub chosen_skip : (key i ≡ k → ⊥) → chosen key period k (suc i) ≡ chosen key period k i
  unfolding chosen
  chosen_skip e = rw (ne_eqb (key i) k e, chosen)

-- each record's hours are in order, and each comes after the one before it
pub record InOrder (key : ℕ → ℕ) (period : ℕ → Period) (n : ℕ) : Type 0 where
  pub midnight : (i : ℕ) → i < n → (period i).to ≤ 1440
  pub forward : (i : ℕ) → i < n → (period i).from ≤ (period i).to
  pub hours : (i : ℕ) → i < n → 0 < (period i).to → (period i).from < (period i).to
  pub after : (i : ℕ) → suc i < n → (key i < key (suc i)) ⊎ ((key i ≡ key (suc i)) × ((period i).to ≤ (period (suc i)).from))

module _ (key : ℕ → ℕ) (period : ℕ → Period) (n : ℕ) (good : InOrder key period n) where
  key_next : (i : ℕ) → suc i < n → key i ≤ key (suc i)
  key_next i l = ⊎_elim (λ a. omega arith) (λ a. omega arith) (good.after i l)

  pub keys_sorted : (i j : ℕ) → i ≤ j → j < n → key i ≤ key j
  keys_sorted i zero a b = let e : i ≡ 0 = omega arith in rw e (omega arith)
  keys_sorted i (suc j) a b =
      ⊎_elim (λ h. omega (arith, keys_sorted i j (omega arith) (omega arith), key_next j b)) (λ h. omega (arith, ap key (same i j a h)))
      (lt_or_le i (suc j))
    where
      same : (i j : ℕ) → i ≤ suc j → suc j ≤ i → i ≡ suc j
      same i j a b = omega arith

  -- a record that comes after record i comes after all periods of its key up to i
  abbrev After : ℕ → ℕ → ℕ → Type 0
  After i k f = (key i < k) ⊎ ((key i ≡ k) × ((period i).to ≤ f))

  end_take : (i k f e : ℕ) → key i ≡ k → end_of 0 (chosen key period k i) ≤ e → e ≤ f → (period i).to ≤ f → end_of 0 (chosen key period k (suc i)) ≤ f
  end_take i k f e q h a b = rw (chosen_take key period k i q, end_more 0 (chosen key period k i) (period i)) (omega arith)

  end_skip : (i k f : ℕ) → (key i ≡ k → ⊥) → end_of 0 (chosen key period k i) ≤ f → end_of 0 (chosen key period k (suc i)) ≤ f
  end_skip i k f q h = rw (chosen_skip key period k i q) h

  end_zero : (k f : ℕ) → end_of 0 (chosen key period k 0) ≤ f
  unfolding chosen
  end_zero k f = omega arith

  ends : (i k f : ℕ) → i < n → After i k f → end_of 0 (chosen key period k (suc i)) ≤ f
  ends zero k f l (inl a) = end_skip 0 k f (λ q. omega arith) (end_zero k f)
  ends zero k f l (inr (q, b)) = end_take 0 k f f q (end_zero k f) (omega arith) b
  ends (suc i) k f l (inl a) = end_skip (suc i) k f (λ q. omega arith) (ends i k f (omega arith) (inl (omega (arith, key_next i l))))
  ends (suc i) k f l (inr (q, b)) =
      end_take (suc i) k f (period (suc i)).from q
      (ends i k (period (suc i)).from (omega arith) (rw q at (good.after i l))) (omega (arith, good.forward (suc i) l)) b

  pub chosen_ordered : (k m : ℕ) → m ≤ n → Ordered 0 (chosen key period k m)
  unfolding chosen
  chosen_ordered k zero l = tt
  chosen_ordered k (suc m) l =
      ⊎_elim
      (λ q.
      rw (chosen_take key period k m q)
      (ordered_more 0 (chosen key period k m) (period m) (chosen_ordered k m (omega arith)) (good.midnight m l) (λ z. (before m q l, good.hours m l z))))
      (λ q. rw (chosen_skip key period k m q) (chosen_ordered k m (omega arith))) (eq_or_ne (key m) k)
    where
      before : (m : ℕ) → key m ≡ k → m < n → end_of 0 (chosen key period k m) ≤ (period m).from
      before zero q l = end_zero k (period 0).from
      before (suc i) q l = ends i k (period (suc i)).from (omega arith) (rw q at (good.after i l))
