-- The indices that have a key, in rising order; the chains through memory that list them; and a walk along such a list that can refuse.
use Rattle.std.specs.Prelude.{◌≡◌, true, false, List, [], ◌∷◌, ℕ, zero, suc, ◌+◌, ◌-◌, ◌≤◌, ◌<◌, eqb}

-- those of the n indices from k on whose key is i
unfoldable pub keyed : (ℕ → ℕ) → ℕ → ℕ → ℕ → List ℕ
keyed key i zero k = []
keyed key i (suc n) k = elim (eqb (key k) i) [ true ↦ k ∷ keyed key i n (k + 1) | false ↦ keyed key i n (k + 1) ]

-- those from k on, of l indices in all
abbrev pub after : (ℕ → ℕ) → ℕ → ℕ → ℕ → List ℕ
after key l i k = keyed key i (l - k) k

-- k is the first from k₀ on, or l where there is none
pub record Stands (key : ℕ → ℕ) (l i k₀ k : ℕ) : Type 0 where
  pub low : k₀ ≤ k
  pub top : k ≤ l
  pub hits : k < l → key k ≡ i
  pub rest : after key l i k₀ ≡ after key l i k

-- the chains of the indices from k on: `head i` is the first with key i, and `next j` the first after j with the key of j
pub record Chained (key head next : ℕ → ℕ) (a l k : ℕ) : Type 0 where
  pub heads : (i : ℕ) → i < a → Stands key l i k (head i)
  pub nexts : (j : ℕ) → k ≤ j → j < l → Stands key l (key j) (j + 1) (next j)

-- a walk along a list: a step hands a state on to what is left, or answers by itself
unfoldable pub gather : {S A : Type 0} → (S → ℕ → (S → A) → A) → (S → A) → List ℕ → S → A
gather step give [] s = give s
gather step give (k ∷ ks) s = step s k (gather step give ks)
