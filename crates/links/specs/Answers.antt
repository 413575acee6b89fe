-- What the links' checks leave: their answers in 01's numbers, the kept links in the lent memory, and the ignored ones' positions in names.
use Rattle.std.specs.Prelude.{◌≡◌, ◌⊎◌, true, false, List, ◌++◌, ℕ, ◌+◌, ◌<◌, length, get_or, set, drop, Result, Ok, Err}
use Rattle.memory.specs.State.{State}
use Rattle.memory.specs.declared.Tables.{Tables}
use Rattle.memory.specs.Seen.{state}
use Rattle.order.specs.Plan.{Plan, plan_in}
use Rattle.order.specs.IdLaws.{DistinctIds}
use Rattle.order.specs.FineLaws.{ActivitiesFine}
use Rattle.order.specs.Ties.{ignored, tie_of, kept_below, ignored_below}
use Rattle.order.specs.Checks.{fine, first_of, judge_link}
use Rattle.order.specs.declared.PlanError.{PlanError}
use Rattle.order.specs.Refusals.{refused}
use Rattle.ids.specs.Index.{Indexed}
use Rattle.ids.specs.Parented.{Parented}
use Rattle.ids.specs.Lent.{Lent}
use Rattle.calendars.specs.declared.plan_calendar.PlanCalendar.{PlanCalendar}
use Rattle.calendars.specs.Calendars.{Lengths}
use Rattle.links.specs.Stored.{tie_in, Stored}
use Rattle.sheet.specs.declared.value.Sheet.{Sheet}

-- T has the activities of S
pub record ActsKept (S T : State) : Type 0 where
  pub acts : T.act ≡ S.act
  pub acts_z : T.act_z ≡ S.act_z

module _ (p : Plan) where
  -- one link, after the n that are ignored and those that t keeps
  module _ (k n : ℕ) (t u : Tables) (names after : List ℕ) where
    pub record LinkIgnored (m : ℕ) : Type 0 where
      pub is : ignored p k ≡ true
      pub same : state u ≡ state t
      pub named : after ≡ set names n k
      pub kept : u.kept ≡ t.kept
      pub more : m ≡ n + 1

    pub record LinkKept (m : ℕ) : Type 0 where
      pub is : ignored p k ≡ false
      pub stored : Stored p k t.kept (state t) (state u)
      pub same : after ≡ names
      pub more : u.kept ≡ t.kept + 1
      pub others : m ≡ n

    abbrev pub LinkedOne : Result ℕ PlanError → Type 0
    LinkedOne (Err e) = (judge_link p k ≡ refused e) × (state u ≡ state t)
    LinkedOne (Ok m) = (judge_link p k ≡ fine) × (LinkIgnored m ⊎ LinkKept m)

  -- the first k links: the kept ones stand in the tables, and the n ignored ones at the beginning of names
  pub record LinksIn (k n : ℕ) (t : Tables) (names after : List ℕ) : Type 0 where
    pub kept_count : t.kept ≡ length (kept_below p k)
    pub ignored_count : n ≡ length (ignored_below p k)
    pub tied : (q : ℕ) → q < t.kept → tie_in (state t) q ≡ tie_of p (get_or (kept_below p k) q 0)
    pub named : after ≡ ignored_below p k ++ drop n names

  -- all links
  abbrev pub LinkedAll : Tables → List ℕ → List ℕ → Result ℕ PlanError → Type 0
  LinkedAll t names after (Err e) = first_of (judge_link p) p.links 0 ≡ refused e
  LinkedAll t names after (Ok n) = (first_of (judge_link p) p.links 0 ≡ fine) × LinksIn p.links n t names after
