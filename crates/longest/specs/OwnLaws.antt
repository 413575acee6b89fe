-- Work in hand, and what is read of an activity's dates and of a link into it, as the definitions have them.
use Rattle.std.specs.Prelude.{◌≡◌, ℕ, ◌<◌, Result, Ok}
use Rattle.worktime.specs.declared.ClockError.{ClockError}
use Rattle.std.proofs.Common.{sym, ap, ap₂, ◌∙◌, arith}
use Rattle.clock.specs.On.{worked_by}
use Rattle.project.specs.declared.Activity.{Activity}
use Rattle.project.specs.declared.RelationshipType.{RelationshipType}
use Rattle.project.specs.Records.{relationship_type_of}
use Rattle.placing.specs.declared.Actual.{Actual}
use Rattle.placing.specs.Placing.{place_start}
use Rattle.memory.specs.State.{State}
use Rattle.memory.specs.declared.Tables.{Tables}
use Rattle.memory.specs.Seen.{state}
use Rattle.memory.specs.Fields.{early_start, work_left, from_field, kind_field}
use Rattle.order.specs.Plan.{Plan, plan_in}
use Rattle.order.specs.Ties as ties
use Rattle.passes.specs.Plan.{origin, own, tie, kind_of, recorded}
use Rattle.passes.specs.Forward.{start_for}
use Rattle.passes.specs.Floats.{is_completed}
use Rattle.dates.specs.Columns.{early_in}
use Rattle.dates.specs.ColumnLaws.{column_at}
use Rattle.dates.specs.Standing.{actual_in, Lent}
use Rattle.bounds.specs.ReadyLaws.{activities_are, kept_within, tie_from_below}
use Rattle.dates.specs.InHand.{InHand}
use Rattle.placing.specs.declared.work.Work.{Work}
use Rattle.passes.specs.Dates.{Early}
use Rattle.calendars.specs.declared.plan_sheet.PlanSheet.{PlanSheet}

module _ {p : Plan} {d : Early} {i : ℕ} {work : Work} (H : InHand p d i work) where
  own_kind : kind_of p i ≡ work.activity.kind
  own_kind = sym (ap (λ (x : Activity). x.kind) H.activity_is)

  pub own_place : (u : ℕ) (r : Result ℕ ClockError) → r ≡ place_start (worked_by work.calendar) work.activity.kind u → r ≡ place_start (own p i) (kind_of p i) u
  own_place u r e = e ∙ (λ z. place_start (sym H.own_is z) (sym own_kind z) u)

module _ {plan : PlanSheet} {tables : Tables} (L : Lent plan tables) where
  abbrev p : Plan
  p = plan_in plan.sheet

  abbrev S : State
  S = state tables

  -- ---- dates of activity i
  module _ (i : ℕ) (l : i < plan.sheet.contents.activities) where
    inside : i < (plan_in plan.sheet).activities
    inside = omega (arith, activities_are plan.sheet.bytes.now plan.sheet.contents)

    pub start_read : (v : ℕ) → v ≡ S.act early_start i → v ≡ (early_in p S).es i
    start_read v e = e ∙ sym (column_at p.activities (λ j. origin p) early_start S i inside)

    pub left_read : (v : ℕ) → v ≡ S.act work_left i → v ≡ (early_in p S).left i
    left_read v e = e ∙ sym (column_at p.activities (λ j. 0) work_left S i inside)

  -- ---- link k
  module _ (k : ℕ) (l : k < tables.kept) where
    pub link_in : k < plan.sheet.contents.links
    link_in = omega (arith, kept_within L.ready)

    pub kind_read : (v : ℕ) (r : RelationshipType) → v ≡ S.link kind_field k → r ≡ relationship_type_of v → r ≡ (tie p k).kind
    kind_read v r e f = f ∙ ap relationship_type_of e ∙ ap (λ (x : ties.Tie). x.kind) (L.ready.standing.tied k l)

    pub from_read : (v : ℕ) → v ≡ S.link from_field k → v ≡ (tie p k).from
    from_read v e = e ∙ ap (λ (x : ties.Tie). x.from) (L.ready.standing.tied k l)

    pub from_inside : (v : ℕ) → v ≡ S.link from_field k → v < plan.sheet.contents.activities
    from_inside v e = omega (arith, from_read v e, tie_from_below L.ready k l)

    -- whether its predecessor is completed
    pub completed_read : (v : ℕ) (a : Actual) → v ≡ S.link from_field k → a ≡ actual_in S v → is_completed p (recorded p (tie p k).from) ≡ is_completed p (Ok a)
    completed_read v a e f =
        ap (λ (j : ℕ). is_completed p (recorded p j)) (sym (from_read v e))
        ∙ ap (is_completed p) (sym (ap Ok f ∙ L.recorded v (omega (arith, from_inside v e, activities_are plan.sheet.bytes.now plan.sheet.contents))))

    -- the start that its bound b leaves an activity with `left` minutes of work left
    pub start_left : (d : Early) (i left : ℕ) → left ≡ d.left i → (u b : ℕ) (r : RelationshipType) (w : Result ℕ ClockError) → u ≡ S.link kind_field k → r ≡ relationship_type_of u → w ≡ start_for p i left r b
        → w ≡ start_for p i (d.left i) (tie p k).kind b
    start_left d i left v u b r w f g h = h ∙ ap₂ (λ (x : ℕ) (y : RelationshipType). start_for p i x y b) v (kind_read u r f g)
