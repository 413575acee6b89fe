-- What the checks leave in the lent memory for the passes: the kept links and their chains, the order, parents and summaries; and what is recorded of work.
use Rattle.std.specs.Prelude.{◌≡◌, Bool, true, false, ℕ, ◌≤◌, ◌<◌, eqb, length, get_or, Ok}
use Rattle.number.specs.Bit.{bit}
use Rattle.project.specs.declared.RelationshipType.{RelationshipType}
use Rattle.project.specs.declared.RelationshipType.TheVariants.{FinishToStart, StartToStart, FinishToFinish, StartToFinish}
use Rattle.project.specs.Records.{relationship_type_of}
use Rattle.placing.specs.declared.Actual.{Actual}
use Rattle.placing.specs.declared.Actual.TheVariants.{Unstarted, Begun, Completed}
use Rattle.memory.specs.State.{State}
use Rattle.memory.specs.declared.Tables.{Tables}
use Rattle.memory.specs.Seen.{state}
use Rattle.memory.specs.Fields.{parent, is_summary, order_at, recorded_as, recorded_start, recorded_finish, from_field, to_field, kind_field, lag_field, lag_calendar_field}
use Rattle.topology.specs.Order.{ChainsIn, ChainsOut}
use Rattle.order.specs.Plan.{Plan, plan_in}
use Rattle.order.specs.Ids.{parent_of, summary}
use Rattle.order.specs.Ties as ties
use Rattle.order.specs.Ties.{kept_below}
use Rattle.order.specs.Checks.{order, checked}
use Rattle.passes.specs.Plan.{tie, recorded}
use Rattle.dates.specs.declared.Tie.{Tie}
use Rattle.calendars.specs.declared.plan_sheet.PlanSheet.{PlanSheet}

-- a link as code carries it
abbrev pub as_tie : Tie → ties.Tie
as_tie t = record { from = t.from; to = t.to; kind = t.kind; lag = t.lag; calendar = t.calendar }

-- the link in row t of the link table
abbrev pub tie_in : State → ℕ → ties.Tie
tie_in S t = record {
  from = S.link from_field t;
  to = S.link to_field t;
  kind = relationship_type_of (S.link kind_field t);
  lag = S.link_z lag_field t;
  calendar = S.link lag_calendar_field t;
}

-- which end of its predecessor a link counts from, and which end of its successor it leads to
abbrev pub counts_from_finish : RelationshipType → Bool
counts_from_finish FinishToStart = true
counts_from_finish StartToStart = false
counts_from_finish FinishToFinish = true
counts_from_finish StartToFinish = false

abbrev pub leads_to_finish : RelationshipType → Bool
leads_to_finish FinishToStart = false
leads_to_finish StartToStart = false
leads_to_finish FinishToFinish = true
leads_to_finish StartToFinish = true

-- what is recorded of an activity, by its three cells
unfoldable pub actual_of : ℕ → ℕ → ℕ → Actual
actual_of how start finish = elim (eqb how 0) [ true ↦ Unstarted | false ↦ elim (eqb how 1) [ true ↦ Begun start | false ↦ Completed start finish ] ]

abbrev pub actual_in : State → ℕ → Actual
actual_in S i = actual_of (S.act recorded_as i) (S.act recorded_start i) (S.act recorded_finish i)

-- fields below 10 of activities and below 7 of links
pub record Standing (p : Plan) (t : ℕ) (S : State) : Type 0 where
  -- t links are kept
  pub count : t ≡ length (kept_below p p.links)
  pub within : t ≤ p.links
  pub tied : (k : ℕ) → k < t → tie_in S k ≡ tie p k
  pub parents : (i : ℕ) → i < p.activities → S.act parent i ≡ parent_of p i
  pub marks : (i : ℕ) → i < p.activities → S.act is_summary i ≡ bit (summary p i)
  pub chains_in : ChainsIn p.activities t S
  pub chains_out : ChainsOut p.activities t S
  pub ordered : (q : ℕ) → q < p.activities → S.act order_at q ≡ get_or (order p) q 0

-- what the passes are lent: a sheet that was read and whose plan the checks accept, its calendars' places, and memory as the checks leave it
-- a clause, and no struct's field: it relates the tables, which most stages write, to the sheet; for the functions that only read them a struct of both would be made at each call
pub record Ready (plan : PlanSheet) (tables : Tables) : Type 0 where
  pub activities : tables.activities ≡ plan.sheet.contents.activities
  pub links : tables.links ≡ plan.sheet.contents.links
  pub fine : (checked (plan_in plan.sheet)).number ≡ 0
  pub standing : Standing (plan_in plan.sheet) tables.kept (state tables)

-- fields 17 to 19 of activities
-- a clause, and no type's field: it relates the tables, which are written, to the plan
abbrev pub Recorded : Plan → State → Type 0
Recorded p S = (i : ℕ) → i < p.activities → Ok (actual_in S i) ≡ recorded p i

-- what the passes are lent once the work left is found: a plan that is ready, with what is recorded of work
pub record Lent (plan : PlanSheet) (tables : Tables) : Type 0 where
  pub ready : Ready plan tables
  pub recorded : Recorded (plan_in plan.sheet) (state tables)
