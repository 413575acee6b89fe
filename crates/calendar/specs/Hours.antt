-- The hours of a day: which minutes its periods hold, how many stand before one, and which is the first that does.
use Rattle.std.specs.Prelude.{Option, Some, None, Bool, true, false, ◌&&◌, ◌||◌, List, [], ◌∷◌, ℕ, ◌+◌, ◌-◌, ◌/◌, ◌%◌, ◌≤◌, ◌<◌, min, max, ltb, leb}
use Rattle.calendar.specs.declared.Period.{Period}

-- a period that holds no minute
abbrev pub none : Period
none = record { from = 0; to = 0 }

-- minute m of the day lies in the period
abbrev pub holds : Period → ℕ → Bool
holds p m = leb p.from m && ltb m p.to

-- "A minute is worked if its day's hours hold it."
unfoldable pub held : List Period → ℕ → Bool
held [] m = false
held (p ∷ ps) m = holds p m || held ps m

-- the hours of each day, and with them which minutes are worked: "A time is a minute; its day is time / 1,440 rounded down."
unfoldable pub worked : (ℕ → List Period) → ℕ → Bool
worked h t = held (h (t / 1440)) (t % 1440)

-- "From < to ≤ 1,440; by [..] time, without overlap": periods in order from minute a on, with any number of empty ones
abbrev pub Ordered : ℕ → List Period → Type 0
Ordered a [] = Unit {0}
Ordered a (p ∷ ps) = (p.to ≤ 1440) × (0 < p.to → (a ≤ p.from) × (p.from < p.to)) × Ordered (max a p.to) ps

-- rank: the minutes of the day worked before minute m
unfoldable pub rank : List Period → ℕ → ℕ
rank [] m = 0
rank (p ∷ ps) m = min m p.to - p.from + rank ps m

-- select: the minute of the day by which k minutes are worked
unfoldable pub select : List Period → ℕ → ℕ
select [] k = 0
select (p ∷ ps) k = elim (leb k (p.to - p.from)) [ true ↦ p.from + k | false ↦ select ps (k - (p.to - p.from)) ]

-- the first worked minute of the day at or after minute m: in the first period that ends after m
unfoldable pub next_in : List Period → ℕ → Option ℕ
next_in [] m = None
next_in (p ∷ ps) m = elim (ltb m p.to) [ true ↦ Some (max m p.from) | false ↦ next_in ps m ]

-- some period holds a minute
unfoldable pub works : List Period → Bool
works [] = false
works (p ∷ ps) = ltb p.from p.to || works ps
