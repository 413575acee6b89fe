-- The minutes of days: by their weekdays alone, from sums, and by the hours of each.
use Rattle.std.specs.Prelude.{◌≡◌, List, [], ℕ, zero, suc, ◌+◌, ◌*◌, ◌/◌, ◌≤◌, ◌<◌, get_or}
use Rattle.date.specs.Days.{weekday}
use Rattle.calendar.specs.declared.Period.{Period}
use Rattle.calendar.specs.Hours.{rank}

-- the sums rise, to at most the minutes that a week can have
abbrev pub Rising : List ℕ → Type 0
Rising ss = ((i j : ℕ) → i ≤ j → j ≤ 7 → get_or ss i 0 ≤ get_or ss j 0) × (get_or ss 7 0 ≤ 10080)

-- ss are the sums of the minutes of the weekdays: entry k has those of the first k, from Monday on
pub record Sums (week : List (List Period)) (ss : List ℕ) : Type 0 where
  pub none : get_or ss 0 0 ≡ 0
  pub each : (k : ℕ) → k < 7 → get_or ss (k + 1) 0 ≡ get_or ss k 0 + rank (get_or week k []) 1440
  pub rising : Rising ss

-- the minutes of the days before day d, each by its weekday, from the Monday before day 0 on
unfoldable pub regular : List ℕ → ℕ → ℕ
regular ss d = get_or ss 7 0 * ((d + 1) / 7) + get_or ss (weekday d) 0

-- the minutes of m days from day d on, by the hours of each
unfoldable pub days_work : (ℕ → List Period) → ℕ → ℕ → ℕ
days_work h d zero = 0
days_work h d (suc m) = days_work h d m + rank (h (d + m)) 1440
