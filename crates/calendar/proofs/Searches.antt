-- A search among the records by their places, up or down: what it has found, by std's `find`, is the first record of a day or later.
use Rattle.std.proofs.Common.{⊎_elim, unwrap_or, arith, Option, Some, None, List, ℕ, ◌≡◌, ◌+◌, ◌≤◌, ◌<◌}
use Rattle.std.proofs.lemmas.Bool.{cases_lt}
use Rattle.std.specs.Option.{MatchOption}
use Rattle.calendar.specs.Records.{exception_day, FirstFrom}

module _ (s : List ℕ) (at n d : ℕ) where
  -- or all are before
  pub first_or_end : (r : Option ℕ) → MatchOption r ((j : ℕ) → j < n → exception_day s at j < d) (λ i. FirstFrom s at n d i) → FirstFrom s at n d (unwrap_or r n)
  first_or_end None f = record { within = omega arith; below = f; above = λ j l m. absurd (omega arith) }
  first_or_end (Some i) f = f

  -- or none is before
  pub after_or_start : (r : Option ℕ) (m : ℕ) (Is : ℕ → Type 0) → MatchOption r (m ≡ 0) Is → ((i : ℕ) → Is i → m ≡ i + 1)
      → MatchOption r ((j : ℕ) → 0 ≤ j → j < n → d ≤ exception_day s at j) (λ i. FirstFrom s at n d (i + 1)) → FirstFrom s at n d m
  after_or_start None m Is e is f = rw e (record { within = omega arith; below = λ j l. absurd (omega arith); above = λ j l h. f j l h })
  after_or_start (Some i) m Is e is f = rw (is i e) f

module _ (s : List ℕ) (at n d : ℕ) (sorted : (i j : ℕ) → i ≤ j → j < n → exception_day s at i ≤ exception_day s at j) (low high : ℕ) (within : high ≤ n) where
  pub found_up : (r : Option ℕ) → ((j : ℕ) → j < low → exception_day s at j < d)
      → MatchOption r ((k : ℕ) → low ≤ k → k < high → exception_day s at k < d)
      (λ i. (low ≤ i) × (i < high) × (d ≤ exception_day s at i) × ((k : ℕ) → low ≤ k → k < i → exception_day s at k < d))
      → MatchOption r ((j : ℕ) → j < high → exception_day s at j < d) (λ i. FirstFrom s at n d i)
  found_up None before f = λ j l. ⊎_elim (before j) (λ h. f j h l) (cases_lt j low)
  found_up (Some i) before f = record {
    within = omega (arith, f.1);
    below = λ j l. ⊎_elim (before j) (λ h. f.3 j h l) (cases_lt j low);
    above = λ j l m. omega (arith, f.2, sorted i j l m);
  }

  pub found_down : (r : Option ℕ) → ((j : ℕ) → high ≤ j → j < n → d ≤ exception_day s at j)
      → MatchOption r ((k : ℕ) → low ≤ k → k < high → d ≤ exception_day s at k)
      (λ i. (low ≤ i) × (i < high) × (exception_day s at i < d) × ((k : ℕ) → i < k → k < high → d ≤ exception_day s at k))
      → MatchOption r ((j : ℕ) → low ≤ j → j < n → d ≤ exception_day s at j) (λ i. FirstFrom s at n d (i + 1))
  found_down None after f = λ j l m. ⊎_elim (λ h. f j l h) (λ h. after j h m) (cases_lt j high)
  found_down (Some i) after f = record {
    within = omega (arith, f.1);
    below = λ j l. omega (arith, f.2, sorted j i (omega arith) (omega (arith, f.1)));
    above = λ j l m. ⊎_elim (λ h. f.3 j (omega arith) h) (λ h. after j h m) (cases_lt j high);
  }
