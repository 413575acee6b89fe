-- The proleptic Gregorian calendar, year 0 before year 1: leap years, month lengths, and the day that a year, a month and a day of the month name.
use Rattle.std.specs.Prelude.{◌≡◌, Bool, not, ◌&&◌, ◌||◌, List, [], ◌∷◌, ℕ, zero, suc, ◌+◌, ◌-◌, ◌%◌, ◌≤◌, eqb, ℤ, pos, negsuc, neg_ℤ, nat_abs, ◌+ℤ◌, get_or, take}
use Rattle.number.specs.Bit.{bit}

-- every fourth year is a leap year, but a hundredth one only if it is a four-hundredth
unfoldable pub leap : ℕ → Bool
leap n = eqb (n % 4) 0 && (not (eqb (n % 100) 0) || eqb (n % 400) 0)

-- the lengths of the months, January's first, of a leap year and of a common one
unfoldable pub lengths : Bool → List ℕ
lengths l = 31 ∷ (28 + bit l) ∷ 31 ∷ 30 ∷ 31 ∷ 30 ∷ 31 ∷ 31 ∷ 30 ∷ 31 ∷ 30 ∷ 31 ∷ []

-- a year before year 0 is as far from it as its size
abbrev pub month_lengths : ℤ → List ℕ
month_lengths year = lengths (leap (nat_abs year))

unfoldable pub sum : List ℕ → ℕ
sum [] = 0
sum (n ∷ ns) = n + sum ns

abbrev pub month_length : ℤ → ℕ → ℕ
month_length year month = get_or (month_lengths year) (month - 1) 0

-- the days of a year before a month
abbrev pub days_before : ℤ → ℕ → ℕ
days_before year month = sum (take (month - 1) (month_lengths year))

abbrev pub year_length : ℤ → ℕ
year_length year = sum (month_lengths year)

-- the days of the n years from year 0 on
unfoldable pub years_up : ℕ → ℕ
years_up zero = 0
years_up (suc n) = years_up n + year_length (pos n)

-- the days of the n years before year 0
unfoldable pub years_down : ℕ → ℕ
years_down zero = 0
years_down (suc n) = years_down n + year_length (negsuc n)

-- 1 January of a year, in days from that of year 0
unfoldable pub new_year : ℤ → ℤ
new_year (pos n) = pos (years_up n)
new_year (negsuc n) = neg_ℤ (pos (years_down (suc n)))

-- the day is that of the year, the month and the day of the month, where 1 January 1970 is day 0
pub record IsDate (day year : ℤ) (month day_of_month : ℕ) : Type 0 where
  pub month_from : 1 ≤ month
  pub month_to : month ≤ 12
  pub from : 1 ≤ day_of_month
  pub to : day_of_month ≤ month_length year month
  pub counted : day +ℤ new_year (pos 1970) ≡ new_year year +ℤ pos (days_before year month + (day_of_month - 1))
