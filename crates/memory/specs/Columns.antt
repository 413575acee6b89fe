-- Where the rows of fields stand in a table: which cells the fields from one to another take, and that no two places are one cell.
use Rattle.std.specs.Prelude.{◌≡◌, ◌⊎◌, ℕ, ◌+◌, ◌-◌, ◌*◌, ◌≤◌, ◌<◌}
use Rattle.std.proofs.Common.{sym, ap, ◌∙◌, inl, inr, ⊎_elim, suc-mul, mul-le-mul_right, arith}
use borrow.Author.Tests.{le-leb, lt-leb}
use Rattle.number.specs.Order.{lt_or_le}
use Rattle.memory.specs.State.{place}

module _ (n : ℕ) where
  pub column_ends : {f g : ℕ} → f < g → f * n + n ≤ g * n
  column_ends {f} h = omega (arith, suc-mul f n, mul-le-mul_right n h)

  -- ---- the two ways
  pub place_before : (f i : ℕ) → f < 20 → place n f i ≡ f * n + i
  unfolding place
  place_before f i h = rw (lt-leb 20 f h, place)

  pub place_after : (f i : ℕ) → 27 < f → place n f i ≡ f * n + i
  unfolding place
  place_after f i h = rw (le-leb 20 f (omega arith), lt-leb f 27 h, place)

  pub place_row : (f i : ℕ) → 20 ≤ f → f ≤ 27 → place n f i ≡ 20 * n + 8 * i + (f - 20)
  unfolding place
  place_row f i h k = rw (le-leb 20 f h, le-leb f 27 k, place)

  -- a field in a column, before or after the eight, or one of them
  place_ways : (f i : ℕ) → (((f < 20) ⊎ (27 < f)) × (place n f i ≡ f * n + i)) ⊎ ((20 ≤ f) × (f ≤ 27) × (place n f i ≡ 20 * n + 8 * i + (f - 20)))
  place_ways f i =
      ⊎_elim (λ (h : f < 20). inl (inl h, place_before f i h))
      (λ (h : 20 ≤ f). ⊎_elim (λ (k : 27 < f). inl (inr k, place_after f i k)) (λ (k : f ≤ 27). inr (h, k, place_row f i h k)) (lt_or_le 27 f)) (lt_or_le f 20)

  -- ---- fields from lo on, and before hi, where neither parts the eight
  pub place_from : (lo f i : ℕ) → (lo ≤ 20) ⊎ (27 < lo) → lo ≤ f → lo * n ≤ place n f i
  place_from lo f i w h =
      ⊎_elim (λ e. omega (arith, e.1, mul-le-mul_right n h))
      (λ e. ⊎_elim (λ (l : lo ≤ 20). omega (arith, e, mul-le-mul_right n l)) (λ (l : 27 < lo). absurd (omega (arith, e))) w) (place_ways f i)

  pub place_to : (hi f i : ℕ) → (hi ≤ 20) ⊎ (27 < hi) → f < hi → i < n → place n f i < hi * n
  place_to hi f i w h q =
      ⊎_elim (λ e. omega (arith, e.1, column_ends h))
      (λ e. ⊎_elim (λ (l : hi ≤ 20). absurd (omega (arith, e))) (λ (l : 27 < hi). omega (arith, e, mul-le-mul_right n l)) w) (place_ways f i)

  -- ---- no two places are one cell
  column_apart : (f i g j : ℕ) → i < n → j < n → f * n + i ≡ g * n + j → (f ≡ g) × (i ≡ j)
  column_apart f i g j p q e =
      ⊎_elim (λ (h : f < g). absurd (omega (arith, column_ends h)))
      (λ (h : g ≤ f). ⊎_elim (λ (k : g < f). absurd (omega (arith, column_ends k))) (λ (k : f ≤ g). let d : f ≡ g = omega arith in (d, omega (arith, ap (λ (m : ℕ). m * n) d))) (lt_or_le g f)) (lt_or_le f g)

  -- a column before or after the eight has none of their cells
  column_else : (f i g j : ℕ) → i < n → j < n → (f < 20) ⊎ (27 < f) → 20 ≤ g → g ≤ 27 → f * n + i ≡ 20 * n + 8 * j + (g - 20) → ⊥
  column_else f i g j p q w a b e =
      ⊎_elim (λ (h : f < 20). omega (arith, column_ends h)) (λ (h : 27 < f). omega (arith, mul-le-mul_right n h)) w

  pub place_apart : (f i g j : ℕ) → i < n → j < n → place n f i ≡ place n g j → (f ≡ g) × (i ≡ j)
  place_apart f i g j p q e =
      ⊎_elim (λ a. ⊎_elim (λ b. column_apart f i g j p q (sym a.1 ∙ e ∙ b.1)) (λ b. absurd (column_else f i g j p q a.0 b.0 b.1 (sym a.1 ∙ e ∙ b.2))) (place_ways g j))
      (λ a.
      ⊎_elim (λ b. absurd (column_else g j f i q p b.0 a.0 a.1 (sym b.1 ∙ sym e ∙ a.2))) (λ b. (omega (arith, a, b, e), omega (arith, a, b, e))) (place_ways g j))
      (place_ways f i)
