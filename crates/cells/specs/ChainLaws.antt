-- How chains are built from the last index to the first, and the turns of a walk along one.
use Rattle.std.specs.Prelude.{◌≡◌, refl, true, false, ◌≢◌, eqb}
use Rattle.std.proofs.Common.{sym, ◌∙◌, ⊎_elim}
use Rattle.std.proofs.Math.Path.{ap}
use mathlib.Core.List.{List, [], ◌∷◌}
use Prim.Native.Nat.{ℕ, zero, suc, ◌+◌, ◌-◌, ◌≤◌, ◌<◌}
use native.Mathlib.Omega.{arith}
use borrow.Author.Tests.{eq-eqb, ne_eqb}
use Rattle.std.specs.List.{AllByRecursion}
use Rattle.number.specs.Order.{eq_or_ne}
use Rattle.cells.specs.Chain.{keyed, after, Stands, Chained, gather}

-- ---- only the keys of the indices that are asked are read
pub keyed_same : (f g : ℕ → ℕ) (i n k : ℕ) → ((j : ℕ) → j < k + n → f j ≡ g j) → keyed f i n k ≡ keyed g i n k
unfolding keyed
keyed_same f g i zero k h = refl
keyed_same f g i (suc n) k h =
    let e : f k ≡ g k = h k (omega arith) in
    let d : keyed f i n (k + 1) ≡ keyed g i n (k + 1) = keyed_same f g i n (k + 1) (λ j b. h j (omega arith)) in
    λ z. elim (eqb (e z) i) [ true ↦ k ∷ d z | false ↦ d z ]

-- each of them has the key
keyed_all : (key : ℕ → ℕ) (l i n k : ℕ) → k + n ≤ l → AllByRecursion (λ j. (j < l) × (key j ≡ i)) (keyed key i n k)
unfolding keyed
keyed_all key l i zero k h = tt
keyed_all key l i (suc n) k h =
    let rest = keyed_all key l i n (k + 1) (omega arith) in
    ⊎_elim (λ (e : key k ≡ i). rw (eq-eqb (key k) i e, keyed) ((omega arith, e), rest)) (λ (ne : key k ≢ i). rw (ne_eqb (key k) i ne, keyed) rest) (eq_or_ne (key k) i)

module _ (key : ℕ → ℕ) (l i : ℕ) where
  pub after_all : (k : ℕ) → k ≤ l → AllByRecursion (λ j. (j < l) × (key j ≡ i)) (after key l i k)
  after_all k h = keyed_all key l i (l - k) k (omega arith)

  pub after_end : (k : ℕ) → l ≤ k → after key l i k ≡ []
  unfolding keyed
  after_end k h = let e : l - k ≡ 0 = omega arith in rw e

  pub after_hit : (k : ℕ) → k < l → key k ≡ i → after key l i k ≡ k ∷ after key l i (k + 1)
  unfolding keyed
  after_hit k h q = let e : l - k ≡ suc (l - (k + 1)) = omega arith in rw (e, eq-eqb _ _ q, keyed)

  pub after_miss : (k : ℕ) → k < l → key k ≢ i → after key l i k ≡ after key l i (k + 1)
  unfolding keyed
  after_miss k h q = let e : l - k ≡ suc (l - (k + 1)) = omega arith in rw (e, ne_eqb _ _ q, keyed)

  pub stands_here : (k : ℕ) → k < l → key k ≡ i → Stands key l i k k
  stands_here k h e = record { low = omega arith; top = omega arith; hits = λ x. e; rest = refl }

  pub stands_end : Stands key l i l l
  stands_end = record { low = omega arith; top = omega arith; hits = λ x. absurd (omega arith); rest = refl }

  pub stands_back : (k h : ℕ) → k < l → key k ≢ i → Stands key l i (k + 1) h → Stands key l i k h
  stands_back k h b ne s = record {
    low = omega (arith, s.low);
    top = s.top;
    hits = s.hits;
    rest = after_miss k b ne ∙ s.rest;
  }

-- ---- the chains of no index, and of one more in front
pub chained_none : (key head next : ℕ → ℕ) (a l : ℕ) → ((i : ℕ) → i < a → head i ≡ l) → Chained key head next a l l
chained_none key head next a l h = record {
  heads = λ i b. rw (h i b) (stands_end key l i);
  nexts = λ j g b. absurd (omega arith);
}

pub chained_more : (key head next head' next' : ℕ → ℕ) (a l k : ℕ) → k < l → Chained key head next a l (k + 1) → key k < a
    → head' (key k) ≡ k → ((i : ℕ) → i < a → i ≢ key k → head' i ≡ head i)
    → next' k ≡ head (key k) → ((j : ℕ) → j ≢ k → next' j ≡ next j)
    → Chained key head' next' a l k
chained_more key head next head' next' a l k b c r h1 h2 n1 n2 = record {
  heads = λ i g.
      ⊎_elim (λ (e : i ≡ key k). rw (e, h1) (stands_here key l (key k) k b refl))
      (λ (ne : i ≢ key k). rw (h2 i g ne) (stands_back key l i k (head i) b (λ e. ne (sym e)) (c.heads i g))) (eq_or_ne i (key k));
  nexts = λ j g x.
      ⊎_elim (λ (e : j ≡ k). rw (e, n1) (c.heads (key k) r)) (λ (ne : j ≢ k). rw (n2 j ne) (c.nexts j (omega arith) x)) (eq_or_ne j k);
}

-- ---- a walk along the indices with key i
module _ {S A : Type 0} (step : S → ℕ → (S → A) → A) (give : S → A) (key : ℕ → ℕ) (l i : ℕ) (s₀ : S) where
  abbrev pub gathered : A
  gathered = gather step give (after key l i 0) s₀

  -- index k is next, and s is the state so far
  pub record Cursor (s : S) (k : ℕ) : Type 0 where
    pub top : k ≤ l
    pub hits : k < l → key k ≡ i
    pub left : gather step give (after key l i k) s ≡ gathered

  pub cursor_start : {k : ℕ} → Stands key l i 0 k → Cursor s₀ k
  cursor_start c = record { top = c.top; hits = c.hits; left = ap (λ (ks : List ℕ). gather step give ks s₀) (sym c.rest) }

  module _ {s : S} {k : ℕ} (C : Cursor s k) where
    on : k < l → step s k (gather step give (after key l i (k + 1))) ≡ gathered
    unfolding gather
    on b = ap (λ (ks : List ℕ). gather step give ks s) (sym (after_hit key l i k b (C.hits b))) ∙ C.left

    -- the step hands s' on
    pub cursor_turn : {k' : ℕ} (s' : S) → k < l → Stands key l (key k) (k + 1) k' → ((f : S → A) → step s k f ≡ f s') → Cursor s' k'
    cursor_turn s' b T h =
        let c = rw (C.hits b) at T in record {
          top = c.top;
          hits = c.hits;
          left = ap (λ (ks : List ℕ). gather step give ks s') (sym c.rest) ∙ sym (h (gather step give (after key l i (k + 1)))) ∙ on b;
        }

    -- the step answers by itself
    pub cursor_stop : (a : A) → k < l → ((f : S → A) → step s k f ≡ a) → a ≡ gathered
    cursor_stop a b h = sym (h (gather step give (after key l i (k + 1)))) ∙ on b

    pub cursor_end : l ≤ k → give s ≡ gathered
    unfolding gather
    cursor_end b = ap (λ (ks : List ℕ). gather step give ks s) (sym (after_end key l i k b)) ∙ C.left

  -- the same, where ks are left and s is the state so far
  pub record Along (s : S) (ks : List ℕ) : Type 0 where
    pub each : AllByRecursion (λ k. (k < l) × (key k ≡ i)) ks
    pub left : gather step give ks s ≡ gathered

  pub along_start : Along s₀ (after key l i 0)
  along_start = record { each = after_all key l i 0 (omega arith); left = refl }

  module _ {s : S} where
    pub along_end : Along s [] → give s ≡ gathered
    unfolding gather
    along_end W = W.left

    module _ {k : ℕ} {ks : List ℕ} (W : Along s (k ∷ ks)) where
      pub along_kept : k < l
      along_kept = W.each.0.0

      -- the step hands s' on
      pub along_turn : (s' : S) → ((f : S → A) → step s k f ≡ f s') → Along s' ks
      unfolding gather
      along_turn s' h = record { each = W.each.1; left = sym (h (gather step give ks)) ∙ W.left }

      -- the step answers by itself
      pub along_stop : (a : A) → ((f : S → A) → step s k f ≡ a) → a ≡ gathered
      unfolding gather
      along_stop a h = sym (h (gather step give ks)) ∙ W.left

-- ---- what every step keeps, the walk's answer keeps
pub gather_keeps : {S A : Type 0} (step : S → ℕ → (S → A) → A) (give : S → A) (P : S → Type 0) (Q : A → Type 0) → ((s : S) → P s → Q (give s))
    → ((s : S) (k : ℕ) (f : S → A) → P s → ((t : S) → P t → Q (f t)) → Q (step s k f)) → (ks : List ℕ) (s : S) → P s → Q (gather step give ks s)
unfolding gather
gather_keeps step give P Q g h [] s p = g s p
gather_keeps step give P Q g h (k ∷ ks) s p = h s k (gather step give ks) p (gather_keeps step give P Q g h ks)
