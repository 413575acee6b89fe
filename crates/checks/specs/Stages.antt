-- The answer of the checks, and what it says of the lent names and the lent memory.
use Rattle.std.specs.Prelude.{◌≡◌, List, ◌++◌, ℕ, ◌-◌, pos, length, replicate, Result, Ok, Err, IfOk}
use Rattle.memory.specs.State.{State}
use Rattle.memory.specs.Seen.{state}
use Rattle.memory.specs.declared.Tables.{Tables}
use Rattle.order.specs.Plan.{Plan, plan_in}
use Rattle.order.specs.Ties.{ignored_links, open_ends}
use Rattle.order.specs.Checks.{Verdict, or_else, judge_order, checked}
use Rattle.order.specs.CheckLaws.{calendars_first, activities_first, parents_first, summaries_first, links_first}
use Rattle.order.specs.declared.PlanError.{PlanError}
use Rattle.order.specs.Refusals.{plan_number, plan_id}
use Rattle.order.specs.IdLaws.{DistinctIds}
use Rattle.order.specs.FineLaws.{ActivitiesFine, ParentsKnown}
use Rattle.ids.specs.Index.{Indexed}
use Rattle.ids.specs.Parented.{Parented}
use Rattle.ids.specs.Answers.{Answered}
use Rattle.dates.specs.Standing.{Standing, Ready}
use Rattle.checks.specs.declared.PlanCounts.{PlanCounts}
use Rattle.checks.specs.Names.{then_zeros}
use Rattle.checks.specs.Elsewhere.{Elsewhere}
use Rattle.calendars.specs.declared.plan_sheet.PlanSheet.{PlanSheet}

-- ---- the verdicts of the parts
module _ (p : Plan) where
  -- rows 5 to 10
  abbrev pub ids_verdict : Verdict
  ids_verdict = or_else (calendars_first p) (or_else (activities_first p) (parents_first p))

  -- rows 13, 14 and 8 of the links, then 15
  abbrev pub links_verdict : Verdict
  links_verdict = or_else (links_first p) (judge_order p)

  -- rows 11 and 12, then those
  abbrev pub summaries_verdict : Verdict
  summaries_verdict = or_else (summaries_first p) links_verdict

  -- what holds and stands in the memory where rows 5 to 10 are fine
  pub record Prepared (S : State) : Type 0 where
    pub activities : ActivitiesFine p
    pub distinct : DistinctIds p
    pub known : ParentsKnown p
    pub indexed : Indexed p S p.activities
    pub parented : Parented p S p.activities

  pub record IdsChecked {T : Type 0} (r : Result T PlanError) (S : State) : Type 0 where
    pub answered : Answered r ids_verdict
    pub holds : IfOk r (λ x. Prepared S)

-- the counts of a plan that is fine
pub record Counted (p : Plan) (c : PlanCounts) : Type 0 where
  pub ignored : c.ignored ≡ length (ignored_links p)
  pub ends : c.open_ends ≡ open_ends p

-- ---- some of the checks: v is their verdict, `size` the length of the names and `room` that of the memory
module _ (p : Plan) (v : Verdict) (size room : ℕ) (names : List ℕ) (tables : Tables) where
  pub record FineAs (c : PlanCounts) : Type 0 where
    pub fine : v.number ≡ 0
    pub standing : Standing p tables.kept (state tables)
    pub elsewhere : Elsewhere tables.kept tables
    pub named : names ≡ ignored_links p ++ replicate (size - length (ignored_links p)) 0
    pub counted : Counted p c

  pub record RefusedAs (e : PlanError) : Type 0 where
    pub number_is : plan_number e ≡ v.number
    pub id_is : plan_id e ≡ v.id
    pub named : names ≡ v.loop ++ replicate (size - length v.loop) 0
    pub cleared : tables.cells.now ≡ replicate room (pos 0)

  abbrev pub Judged : Result PlanCounts PlanError → Type 0
  Judged (Ok c) = FineAs c
  Judged (Err e) = RefusedAs e

-- ---- all of them: names and memory before and after
module _ (plan : PlanSheet) (names : List ℕ) (tables : Tables) (names' : List ℕ) (tables' : Tables) where
  pub record PlanFine (c : PlanCounts) : Type 0 where
    pub fine : (checked (plan_in plan.sheet)).number ≡ 0
    pub ready : Ready plan tables'
    pub elsewhere : Elsewhere tables'.kept tables'
    pub named : names' ≡ then_zeros (ignored_links (plan_in plan.sheet)) names
    pub counted : Counted (plan_in plan.sheet) c

  pub record PlanRefused (e : PlanError) : Type 0 where
    pub number_is : plan_number e ≡ (checked (plan_in plan.sheet)).number
    pub id_is : plan_id e ≡ (checked (plan_in plan.sheet)).id
    pub named : names' ≡ then_zeros (checked (plan_in plan.sheet)).loop names
    pub cleared : tables'.cells.now ≡ replicate (length tables.cells.now) (pos 0)

  abbrev pub PlanChecked : Result PlanCounts PlanError → Type 0
  PlanChecked (Ok c) = PlanFine c
  PlanChecked (Err e) = PlanRefused e
