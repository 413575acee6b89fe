-- What the passes ask of a plan: whose calendar is whose, the kept links by number, and what stands still before the passes.
use Rattle.std.specs.Prelude.{Bool, true, false, List, ℕ, ◌+◌, max, get_or, Result, Ok, Err, Option, Some, None}
use Rattle.worktime.specs.declared.ClockError.{ClockError}
use Rattle.date.specs.declared.Date.{Date}
use Rattle.number.specs.Zed.{up}
use Rattle.calendar.specs.Hours.{worked}
use Rattle.project.specs.declared.ActivityKind.{ActivityKind}
use Rattle.network.specs.Outgoing.{incoming, outgoing}
use Rattle.placing.specs.declared.Actual.{Actual}
use Rattle.placing.specs.declared.Actual.TheVariants.{Unstarted, Begun, Completed}
use Rattle.placing.specs.Placing.{midnight_of, actual}
use Rattle.order.specs.Plan.{Plan}
use Rattle.order.specs.Ids.{summary}
use Rattle.order.specs.Ties.{Tie, tie_of, kept_below, kept_links, calendar_of}

-- the minute after the last of a day
abbrev pub evening : ℕ → ℕ
evening t = t + 1440

module _ (p : Plan) where
  -- ---- whose calendar: activity i's own, and that of a link's lag
  abbrev pub own : ℕ → ℕ → Bool
  own i = worked (p.hours (calendar_of p i))

  abbrev pub lag_own : Tie → ℕ → Bool
  lag_own t = worked (p.hours t.calendar)

  -- ---- the kept links: the t-th, and those into and out of activity i, rising
  abbrev pub tie : ℕ → Tie
  tie t = tie_of p (get_or (kept_below p p.links) t 0)

  abbrev pub ties_into : ℕ → List ℕ
  ties_into i = incoming (kept_links p) i

  abbrev pub ties_out : ℕ → List ℕ
  ties_out i = outgoing (kept_links p) i

  abbrev pub kind_of : ℕ → ActivityKind
  kind_of i = (p.activity i).kind

  -- ---- the start, the data day and the floor: "Floor is the later of start and data day."
  abbrev pub origin : ℕ
  origin = midnight_of p.project.start

  abbrev pub later : ℕ → Option Date → ℕ
  later t (Some d) = max t (midnight_of d)
  later t None = t

  abbrev pub floor : ℕ
  floor = later origin p.project.data_date

  -- ---- what is recorded of activity i; a summary's dates are unread
  unfoldable pub recorded : ℕ → Result Actual ClockError
  recorded i =
      elim (summary p i) [ true ↦ Ok Unstarted | false ↦ actual (own i) (p.activity i).actual_start (p.activity i).actual_finish ]

  -- the start from which links count: the recorded one once work has begun
  abbrev pub begun : Result Actual ClockError → ℕ → ℕ
  begun (Ok Unstarted) es = es
  begun (Ok (Begun s)) es = s
  begun (Ok (Completed s f)) es = s
  begun (Err k) es = es

  -- the minutes of an activity, none for a summary
  unfoldable pub full : ℕ → ℕ
  full i = elim (summary p i) [ true ↦ 0 | false ↦ up (p.activity i).minutes ]
