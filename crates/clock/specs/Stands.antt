-- Where a walk stands between two E records: what is counted up to there, and how the days on to the next record, or back to the last, are counted.
use Rattle.std.specs.Prelude.{◌≡◌, true, List, [], ℕ, ◌+◌, ◌-◌, ◌*◌, min, ◌≤◌, ◌<◌}
use Rattle.calendar.specs.declared.Period.{Period}
use Rattle.calendar.specs.Hours.{rank}
use Rattle.calendar.specs.Records.{exception_day, exception_period, exceptions_on}
use Rattle.worktime.specs.Worked.{count, closing}
use Rattle.clock.specs.On.{worked_on}
use Rattle.clock.specs.Regular.{regular}

-- the minutes that E record j gives its day
abbrev pub record_work : List ℕ → ℕ → ℕ → ℕ
record_work s at j = min 1440 (exception_period s at j).to - (exception_period s at j).from

-- the minutes counted before E record j: those of the days before its day, and of the records before it on its day
abbrev pub record_count : List (List Period) → List ℕ → ℕ → ℕ → ℕ → ℕ
record_count week s at n j = count (worked_on week s at n) (exception_day s at j * 1440) + rank (exceptions_on s at (exception_day s at j) j) 1440

module _ (week : List (List Period)) (s : List ℕ) (at n : ℕ) (ss : List ℕ) where
  -- c minutes are counted, and E record j is the next: the days from `next` on up to it go by their weekdays, of which `over` minutes come before
  pub record Ahead (j c over : ℕ) : Type 0 where
    pub next : ℕ
    pub is : regular ss next ≡ over
    pub within : j ≤ n
    pub days : (x : ℕ) → next ≤ x → (j < n → x ≤ exception_day s at j) → count (worked_on week s at n) (x * 1440) + over ≡ c + regular ss x
    pub none : (x : ℕ) → next ≤ x → (j < n → x < exception_day s at j) → exceptions_on s at x n ≡ []
    pub record_next : j < n → record_count week s at n j ≡ c + (regular ss (exception_day s at j) - over)

  -- c minutes are counted, and E record j - 1 is the last: the days after it and before `next` go by their weekdays
  pub record Behind (j c over : ℕ) : Type 0 where
    pub next : ℕ
    pub is : regular ss next ≡ over
    pub within : j ≤ n
    pub days : (x : ℕ) → x ≤ next → (0 < j → exception_day s at (j - 1) < x) → count (worked_on week s at n) (x * 1440) + over ≡ c + regular ss x
    pub none : (x : ℕ) → x < next → (0 < j → exception_day s at (j - 1) < x) → exceptions_on s at x n ≡ []
    pub record_last : 0 < j → record_count week s at n (j - 1) + record_work s at (j - 1) + (over - regular ss (exception_day s at (j - 1) + 1)) ≡ c

-- by minute u, x minutes of E record j are worked, and the last of them just before it
pub record RecordMinute (week : List (List Period)) (s : List ℕ) (at n j x u : ℕ) : Type 0 where
  pub low : exception_day s at j * 1440 < u
  pub high : u ≤ exception_day s at j * 1440 + 1440
  pub closes : closing (worked_on week s at n) u ≡ true
  pub opens : worked_on week s at n (u - 1) ≡ true
  pub full : count (worked_on week s at n) u ≡ record_count week s at n j + x
  pub less : count (worked_on week s at n) (u - 1) + 1 ≡ record_count week s at n j + x
