-- A week in a table of numbers: two periods a number, four numbers a weekday.
use Rattle.std.specs.Prelude.{◌≡◌, List, [], ◌∷◌, ℕ, ◌+◌, ◌/◌, ◌%◌, get_or}
use Rattle.calendar.specs.declared.Period.{Period}
use Rattle.calendar.specs.Hours.{none}

-- the period in the low half of a number: its from, and then its to, in 16 bits each
unfoldable pub period_in : ℕ → Period
period_in x = record { from = x % 65536; to = x / 65536 % 65536 }

-- the row in the four numbers from `at` on: its first four periods in their low halves, the others in the high ones
unfoldable pub row_in : List ℕ → ℕ → List Period
row_in xs at =
    let low : ℕ → Period = λ i. period_in (get_or xs i 0) in
    let high : ℕ → Period = λ i. period_in (get_or xs i 0 / 4294967296) in
    low at ∷ low (at + 1) ∷ low (at + 2) ∷ low (at + 3) ∷ high at ∷ high (at + 1) ∷ high (at + 2) ∷ high (at + 3) ∷ []

-- the week in the 28 numbers from `at` on
unfoldable pub week_in : List ℕ → ℕ → List (List Period)
week_in xs at =
    row_in xs at ∷ row_in xs (at + 4) ∷ row_in xs (at + 8) ∷ row_in xs (at + 12) ∷ row_in xs (at + 16) ∷ row_in xs (at + 20) ∷ row_in xs (at + 24) ∷ []

-- number q of a week's 28 holds its two periods
abbrev pub Holds : List ℕ → ℕ → List (List Period) → ℕ → Type 0
Holds xs at week q =
    let row : List Period = get_or week (q / 4) [] in
    (period_in (get_or xs (at + q) 0) ≡ get_or row (q % 4) none) × (period_in (get_or xs (at + q) 0 / 4294967296) ≡ get_or row (q % 4 + 4) none)
