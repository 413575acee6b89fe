-- What the links' steps read of the memory is what the definitions read of the plan and the dates.
use Rattle.std.specs.Prelude.{◌≡◌, Bool, List, [], ◌∷◌, ℕ, ◌<◌, min, eqb, ltb, Ok, Err}
use Rattle.worktime.specs.declared.ClockError.{ClockError}
use Rattle.std.proofs.Common.{sym, ap, ◌∙◌, arith}
use Rattle.number.specs.BitLaws.{mark_flag, mark_is}
use Rattle.cells.specs.Chain.{after, gather}
use Rattle.cells.specs.ChainLaws.{Along, along_start, along_turn, along_stop, along_end}
use Rattle.memory.specs.State.{State}
use Rattle.memory.specs.declared.Tables.{Tables}
use Rattle.memory.specs.Seen.{state}
use Rattle.memory.specs.Fields.{late_start, late_finish, early_finish, work_left, is_summary, from_field, next_out}
use Rattle.placing.proofs.PlacingLaws.{via_at, via_refused}
use Rattle.order.specs.Plan.{Plan, plan_in}
use Rattle.order.specs.Ids.{summary}
use Rattle.order.specs.Ties as ties
use Rattle.passes.specs.Plan.{own, tie, ties_out, origin}
use Rattle.passes.specs.Dates.{Early, Late, refused}
use Rattle.passes.specs.Backward.{over_lag, link_finish, lowered, held_late, placed_late}
use Rattle.dates.specs.declared.Tie.{Tie}
use Rattle.dates.specs.Columns.{early_in, late_in}
use Rattle.dates.specs.ColumnLaws.{column_at}
use Rattle.dates.specs.Standing.{as_tie, tie_in, Ready}
use Rattle.dates.specs.StandingLaws.{out_is}
use Rattle.bounds.specs.ReadyLaws.{activities_are}
use Rattle.bounds.specs.LinkLaws.{tie_is, to_in}
use Rattle.late.specs.Times.{times_of, target_of, finish_by, lowering, unfinished_late}
use Rattle.late.specs.LinkLaws.{lowered_gather}
use Rattle.calendars.specs.declared.plan_sheet.PlanSheet.{PlanSheet}

-- ---- the ways to the late dates of an activity that is not completed
module _ (p : Plan) (d : Early) (l : Late) (i last : ℕ) where
  pub unfinished_lowered : (k : ClockError) → lowered p d l i (ties_out p i) last ≡ Err k → unfinished_late p d l i last ≡ refused k
  unfinished_lowered k e = via_refused refused _ _ k e

  pub unfinished_held : (f : ℕ) (k : ClockError) → lowered p d l i (ties_out p i) last ≡ Ok f → held_late p d l i f ≡ Err k → unfinished_late p d l i last ≡ refused k
  unfinished_held f k e h = via_at refused _ _ f e ∙ via_refused refused _ _ k h

  pub unfinished_placed : (f g : ℕ) → lowered p d l i (ties_out p i) last ≡ Ok f → held_late p d l i f ≡ Ok g → unfinished_late p d l i last ≡ placed_late p d l i g
  unfinished_placed f g e h = via_at refused _ _ f e ∙ via_at refused _ _ g h

module _ {plan : PlanSheet} {tables : Tables} (R : Ready plan tables) where
  abbrev p : Plan
  p = plan_in plan.sheet

  abbrev S : State
  S = state tables

  pub early_at : (i : ℕ) → i < plan.sheet.contents.activities → (early_in p S).ef i ≡ S.act early_finish i
  early_at i b = column_at p.activities (λ j. origin p) early_finish S i (omega (arith, activities_are plan.sheet.bytes.now plan.sheet.contents))

  pub left_at : (i : ℕ) → i < plan.sheet.contents.activities → (early_in p S).left i ≡ S.act work_left i
  left_at i b = column_at p.activities (λ j. 0) work_left S i (omega (arith, activities_are plan.sheet.bytes.now plan.sheet.contents))

  pub summary_at : (i : ℕ) {m : Bool} → i < plan.sheet.contents.activities → m ≡ ltb 0 (S.act is_summary i) → m ≡ summary p i
  summary_at i b e = e ∙ mark_flag (summary p i) (R.standing.marks i (omega (arith, activities_are plan.sheet.bytes.now plan.sheet.contents)))

  -- the cell is 1 exactly where it is a summary
  pub mark_at : (i m : ℕ) → i < plan.sheet.contents.activities → m ≡ S.act is_summary i → eqb m 1 ≡ summary p i
  mark_at i m b e = mark_is (summary p i) (e ∙ R.standing.marks i (omega (arith, activities_are plan.sheet.bytes.now plan.sheet.contents)))

  -- ---- a link in hand is the k-th kept one
  module _ (k : ℕ) (l : k < tables.kept) (τ : Tie) (e : as_tie τ ≡ tie_in S k) where
    pub times_are : (last : ℕ) → times_of (own p (tie p k).to) ((late_in p S last).ls (tie p k).to) ((late_in p S last).lf (tie p k).to)
        ≡ times_of (own p τ.to) (S.act late_start τ.to) (S.act late_finish τ.to)
    times_are last =
        let b : τ.to < p.activities = omega (arith, to_in R k l τ e, activities_are plan.sheet.bytes.now plan.sheet.contents) in
        ap (λ (x : ties.Tie). times_of (own p x.to) ((late_in p S last).ls x.to) ((late_in p S last).lf x.to)) (sym (tie_is R k l τ e))
        ∙ (λ z. times_of (own p τ.to) (column_at p.activities (λ i. last) late_start S τ.to b z) (column_at p.activities (λ i. last) late_finish S τ.to b z))

    pub over_are : (d : Early) (m : Late) (ls lf : ℕ) → over_lag p d m (tie p k) (target_of (tie p k).kind ls lf) ≡ over_lag p d m (as_tie τ) (target_of τ.kind ls lf)
    over_are d m ls lf = ap (λ (x : ties.Tie). over_lag p d m x (target_of x.kind ls lf)) (sym (tie_is R k l τ e))

    pub by_are : (w : ℕ → Bool) (left v : ℕ) → finish_by w left (tie p k).kind v ≡ finish_by w left τ.kind v
    by_are w left v = ap (λ (x : ties.Tie). finish_by w left x.kind v) (sym (tie_is R k l τ e))

  -- ---- the walk along the links out of activity i
  module _ (i last : ℕ) where
    -- the links ks are left, and `latest` is what those before them leave
    abbrev pub Lowering : ℕ → List ℕ → Type 0
    Lowering latest ks = Along (lowering (link_finish p (early_in p S) (late_in p S last) i)) Ok (S.link from_field) tables.kept i last latest ks

    pub lowering_start : Lowering last (after (S.link from_field) tables.kept i 0)
    lowering_start = along_start _ _ _ _ _ _

    whole : gather (lowering (link_finish p (early_in p S) (late_in p S last) i)) Ok (after (S.link from_field) tables.kept i 0) last
        ≡ lowered p (early_in p S) (late_in p S last) i (ties_out p i) last
    whole =
        ap (λ (ks : List ℕ). gather (lowering (link_finish p (early_in p S) (late_in p S last) i)) Ok ks last) (out_is p R.standing i)
        ∙ sym (lowered_gather p (early_in p S) (late_in p S last) i (ties_out p i) last)

    pub lowering_on : (k k' : ℕ) → k < tables.kept → k' ≡ S.link next_out k → k < k'
    lowering_on k k' b n = omega (arith, n, (R.standing.chains_out.nexts k (omega arith) b).low)

    module _ {latest : ℕ} where
      pub lowering_end : Lowering latest [] → Ok latest ≡ lowered p (early_in p S) (late_in p S last) i (ties_out p i) last
      lowering_end W = along_end _ _ _ _ _ _ W ∙ whole

      module _ {k : ℕ} {ks : List ℕ} (W : Lowering latest (k ∷ ks)) where
        pub lowering_next : (f least : ℕ) → link_finish p (early_in p S) (late_in p S last) i k ≡ Ok f → least ≡ min latest f → Lowering least ks
        lowering_next f least e m = rw m (along_turn _ _ _ _ _ _ W (min latest f) (λ go. via_at Err _ _ f e))

        pub lowering_stop : (r : ClockError) → link_finish p (early_in p S) (late_in p S last) i k ≡ Err r
            → Err r ≡ lowered p (early_in p S) (late_in p S last) i (ties_out p i) last
        lowering_stop r e = along_stop _ _ _ _ _ _ W (Err r) (λ go. via_refused Err _ _ r e) ∙ whole
