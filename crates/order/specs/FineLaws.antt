-- What holds of a plan that passes the checks before ordering.
use Rattle.std.specs.Prelude.{◌≡◌, true, ◌≢◌, ℕ, ◌<◌}
use Rattle.order.specs.Plan.{Plan}
use Rattle.order.specs.Ids.{known}
use Rattle.calendar.specs.Records.{weekly_hours}
use Rattle.order.specs.CheckLaws.{ActivityFine, SummaryFine, LinkFine}

module _ (p : Plan) where
  -- after rows 6 to 9, after row 10, after rows 11 and 12, and after rows 13, 14 and 8
  -- clauses, and no type's fields: they are of the plan that a sheet holds, and the sheet is handed on before and after it is judged
  abbrev pub ActivitiesFine : Type 0
  ActivitiesFine = (i : ℕ) → i < p.activities → ActivityFine p i

  abbrev pub ParentsKnown : Type 0
  ParentsKnown = (i : ℕ) → i < p.activities → (p.activity i).parent ≢ 0 → known p p.activities (p.activity i).parent ≡ true

  abbrev pub SummariesFine : Type 0
  SummariesFine = (i : ℕ) → i < p.activities → SummaryFine p i

  abbrev pub LinksFine : Type 0
  LinksFine = (k : ℕ) → k < p.links → LinkFine p k

  pub record PlanFine : Type 0 where
    pub calendars : (k : ℕ) → k < p.calendars → weekly_hours (p.week k) ≡ true
    pub activities : ActivitiesFine
    pub parents : ParentsKnown
    pub summaries : SummariesFine
    pub links : LinksFine
