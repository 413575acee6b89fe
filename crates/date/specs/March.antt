-- Years that begin in March, counted from the year -5,878,000: what the civil-from-days arithmetic computes.
use Rattle.std.specs.Prelude.{◌≡◌, ℕ, ◌+◌, ◌-◌, ◌*◌, ◌/◌, ◌≤◌, ◌<◌, ℤ}
use Rattle.number.specs.Zed.{up, dn}

-- from 1 March of year 0 to 1 March of year n
abbrev pub march : ℕ → ℕ
march n = 365 * n + n / 4 - n / 100 + n / 400

-- the year of an era of 400 years to which its day d belongs, as Hinnant's arithmetic has it
abbrev pub year_of_era : ℕ → ℕ
year_of_era d = (d - d / 1460 + d / 36524 - d / 146096) / 365

-- day d of the count that begins with 1 March of year 0 lies in year n
pub record InYear (d n : ℕ) : Type 0 where
  pub begun : march n ≤ d
  pub ends : d < march (n + 1)

-- n counts the year from -5,878,000, a whole number of eras before year 0
abbrev pub Shifted : ℤ → ℕ → Type 0
Shifted year n = up year + 5878000 ≡ n + dn year

-- the days before the m-th month, counted from 1 March
abbrev pub days_from_march : ℕ → ℕ
days_from_march m = (153 * m + 2) / 5
