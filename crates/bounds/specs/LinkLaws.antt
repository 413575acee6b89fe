-- A kept link's bound from what stands in the memory: the link itself, its predecessor's dates, and what is recorded of it.
use Rattle.std.specs.Prelude.{◌≡◌, ℕ, ◌+◌, ◌^◌, ◌≤◌, ◌<◌, Result, Ok}
use Rattle.worktime.specs.declared.ClockError.{ClockError}
use Rattle.std.proofs.Common.{sym, ap, ap₂, ◌∙◌, arith}
use Rattle.number.specs.Zed.{up, dn}
use Rattle.placing.specs.declared.Actual.{Actual}
use Rattle.memory.specs.State.{State}
use Rattle.memory.specs.declared.Tables.{Tables}
use Rattle.memory.specs.Seen.{state}
use Rattle.memory.specs.Fields.{early_start, early_finish}
use Rattle.order.specs.Plan.{Plan, plan_in}
use Rattle.order.specs.Ties as ties
use Rattle.passes.specs.Plan.{origin, tie, recorded, begun}
use Rattle.passes.specs.Dates.{Early}
use Rattle.passes.specs.Forward.{forward_bound, link_bound}
use Rattle.dates.specs.declared.Tie.{Tie}
use Rattle.dates.specs.Columns.{early_in}
use Rattle.dates.specs.ColumnLaws.{column_at}
use Rattle.dates.specs.Standing.{as_tie, tie_in, actual_in, Ready, Recorded}
use Rattle.bounds.specs.ReadyLaws.{activities_are, tie_from_below, tie_to_below, tie_lag_fits}
use Rattle.calendars.specs.declared.plan_sheet.PlanSheet.{PlanSheet}

-- the start from which the links of activity i count
pub start_counted : (p : Plan) (S : State) → Recorded p S → (i : ℕ) → i < p.activities → (a : Actual) (es₀ es : ℕ) → a ≡ actual_in S i → es₀ ≡ S.act early_start i
    → ((q : Plan) → es ≡ begun q (Ok a) es₀) → es ≡ begun p (recorded p i) ((early_in p S).es i)
start_counted p S N i l a es₀ es f g h =
    h p ∙ ap₂ (begun p) (ap Ok f ∙ N i l) (g ∙ sym (column_at p.activities (λ j. origin p) early_start S i l))

module _ {plan : PlanSheet} {tables : Tables} (R : Ready plan tables) (k : ℕ) (l : k < tables.kept) (τ : Tie)
    (e : as_tie τ ≡ tie_in (state tables) k) where
  -- the link in hand is the k-th kept one
  pub tie_is : as_tie τ ≡ tie (plan_in plan.sheet) k
  tie_is = e ∙ R.standing.tied k l

  pub from_in : τ.from < plan.sheet.contents.activities
  from_in = omega (arith, ap (λ (x : ties.Tie). x.from) tie_is, tie_from_below R k l)

  pub to_in : τ.to < plan.sheet.contents.activities
  to_in = omega (arith, ap (λ (x : ties.Tie). x.to) tie_is, tie_to_below R k l)

  pub lag_in : up τ.lag + dn τ.lag ≤ 144000000
  lag_in =
      omega (
        arith,
        ap (λ (x : ties.Tie). up x.lag) tie_is,
        ap (λ (x : ties.Tie). dn x.lag) tie_is,
        tie_lag_fits R k l,
      )

  pub lead_fits : dn τ.lag < 2 ^ 63
  lead_fits = omega (arith, lag_in)

  module _ (N : Recorded (plan_in plan.sheet) (state tables)) where
    abbrev p : Plan
    p = plan_in plan.sheet

    abbrev S : State
    S = state tables

    within : τ.from < (plan_in plan.sheet).activities
    within = omega (arith, from_in, activities_are plan.sheet.bytes.now plan.sheet.contents)

    pub link_bound_from : (es ef : ℕ) (r : Result ℕ ClockError) → es ≡ begun p (recorded p τ.from) ((early_in p S).es τ.from) → ef ≡ S.act early_finish τ.from
        → r ≡ forward_bound p (as_tie τ) es ef → r ≡ link_bound p (early_in p S) k
    link_bound_from es ef r start m q =
        let d : Early = early_in p S in
        let finish : ef ≡ d.ef τ.from = m ∙ sym (column_at p.activities (λ i. origin p) early_finish S τ.from within) in
        q ∙ ap₂ (forward_bound p (as_tie τ)) start finish
        ∙ ap (λ (x : ties.Tie). forward_bound p x (begun p (recorded p x.from) (d.es x.from)) (d.ef x.from)) tie_is

    pub link_bound_is : (a : Actual) (es₀ es ef : ℕ) (r : Result ℕ ClockError) → a ≡ actual_in S τ.from → es₀ ≡ S.act early_start τ.from
        → ((q : Plan) → es ≡ begun q (Ok a) es₀) → ef ≡ S.act early_finish τ.from → r ≡ forward_bound p (as_tie τ) es ef
        → r ≡ link_bound p (early_in p S) k
    link_bound_is a es₀ es ef r f g h m q = link_bound_from es ef r (start_counted p S N τ.from within a es₀ es f g h) m q
