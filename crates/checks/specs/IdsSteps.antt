-- Rows 5 to 10: the first that refuses, or what stands where all are fine.
use Rattle.std.specs.Prelude.{◌≡◌, Bool, true, false, Result, Ok, Err, IfOk}
use Rattle.std.proofs.Common.{sym, ap, ◌∙◌}
use Rattle.memory.specs.State.{State}
use Rattle.order.specs.Plan.{Plan}
use Rattle.order.specs.Checks.{Verdict, or_else}
use Rattle.order.specs.CheckLaws.{calendars_first, activities_first, parents_first}
use Rattle.order.specs.VerdictLaws.{or_first, or_second}
use Rattle.order.proofs.FineLaws.{activities_fine_lem}
use Rattle.order.specs.declared.PlanError.{PlanError}
use Rattle.order.specs.declared.PlanError.TheVariants.{NoHours}
use Rattle.ids.specs.ParentedLaws.{indexed_kept}
use Rattle.ids.specs.Answers.{Answered, IndexedBy, ParentedBy}
use Rattle.ids.specs.AnswerLaws.{fine_number, refused_number}
use Rattle.ids.specs.SummaryLaws.{indexed_distinct, parented_known}
use Rattle.calendars.specs.Calendars.{hours_verdict}
use Rattle.checks.specs.Stages.{Prepared, IdsChecked}

-- ---- answers of the first of two, and of the second
module _ {T : Type 0} where
  answered_first : {v : Verdict} (w : Verdict) {e : PlanError} → Answered {T = T} (Err e) v → Answered {T = T} (Err e) (or_else v w)
  answered_first {v} w A = record { is = A.is ∙ sym (or_first v w (refused_number A)) }

  answered_then : (v : Verdict) {w : Verdict} {r : Result T PlanError} → v.number ≡ 0 → Answered r w → Answered r (or_else v w)
  answered_then v {w} e A = record { is = A.is ∙ sym (or_second v w e) }

module _ (p : Plan) (hours : Bool) (h : hours_verdict hours ≡ calendars_first p) where
  -- 5
  pub hours_refused : {T : Type 0} → hours ≡ false → (S : State) → IdsChecked p {T = T} (Err NoHours) S
  hours_refused e S = record {
    answered = answered_first (or_else (activities_first p) (parents_first p)) (record { is = ap hours_verdict (sym e) ∙ h });
    holds = tt;
  }

  hours_fine : hours ≡ true → (calendars_first p).number ≡ 0
  hours_fine e = ap (λ (v : Verdict). v.number) (sym h ∙ ap hours_verdict e)

  module _ {T : Type 0} (e : hours ≡ true) where
    -- 6 to 9
    pub ids_refused : {d : PlanError} → Answered {T = T} (Err d) (activities_first p) → (S : State) → IdsChecked p {T = T} (Err d) S
    ids_refused A S = record { answered = answered_then (calendars_first p) (hours_fine e) (answered_first (parents_first p) A); holds = tt }

    -- 10, or none
    module _ {x : T} (A : Answered (Ok x) (activities_first p)) {R S U : State} (I : IndexedBy p p.activities R S (Ok x)) where
      pub ids_then : (q : Result T PlanError) → Answered q (parents_first p) → ParentedBy p p.activities S U q → IdsChecked p q U
      ids_then q B J = record {
        answered = answered_then (calendars_first p) (hours_fine e) (answered_then (activities_first p) (fine_number A) B);
        holds = prepared q B J;
      }
        where
          prepared : (q : Result T PlanError) → Answered q (parents_first p) → ParentedBy p p.activities S U q → IfOk q (λ y. Prepared p U)
          prepared (Err e) B J = tt
          prepared (Ok y) B J = record {
            activities = (activities_fine_lem p).0 (fine_number A);
            distinct = indexed_distinct p A;
            known = parented_known p B;
            indexed = indexed_kept p J.kept I.holds;
            parented = J.holds;
          }
