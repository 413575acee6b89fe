-- A pass over the activities whose check can refuse: those before i are fine, and H holds of the memory up to i.
use Rattle.std.specs.Prelude.{◌≡◌, ℕ, ◌+◌, ◌-◌, ◌<◌, Result, Ok, Err}
use Rattle.std.proofs.Common.{sym, subst, ◌∙◌, arith}
use Rattle.memory.specs.State.{State}
use Rattle.order.specs.Checks.{Verdict, first_of}
use Rattle.order.specs.VerdictLaws.{first_start, first_end, first_passes, first_stops}
use Rattle.order.specs.declared.PlanError.{PlanError}
use Rattle.ids.specs.Lent.{KeptBut}
use Rattle.ids.specs.Answers.{Answered, PassedBy}
use Rattle.ids.specs.LentLaws.{kept_then}
use Rattle.ids.specs.AnswerLaws.{fine_number, refused_number}

module _ (F : ℕ → Type 0) (H : State → ℕ → Type 0) (judge : ℕ → Verdict) (n : ℕ) (S : State) where
  -- what the whole pass and what one step of it leave
  abbrev Whole : {T : Type 0} → State → Result T PlanError → Type 0
  Whole W r = Answered r (first_of judge n 0) × PassedBy F (λ (U : State). H U n) S W r

  pub record Passing (W : State) (i : ℕ) : Type 0 where
    pub judged : first_of judge (n - i) i ≡ first_of judge n 0
    pub kept : KeptBut F S W
    pub holds : H W i

  pub passing_start : {W : State} → KeptBut F S W → H W 0 → Passing W 0
  passing_start k h = record { judged = first_start judge n; kept = k; holds = h }

  module _ {T : Type 0} {W : State} {i : ℕ} (X : Passing W i) where
    module _ {U : State} (l : i < n) where
      pub passing_turn : {x : T} → Answered (Ok x) (judge i) → PassedBy F (λ (V : State). H V (i + 1)) W U (Ok x) → Passing U (i + 1)
      passing_turn A B = record {
        judged = sym (first_passes judge n i l (fine_number A)) ∙ X.judged;
        kept = kept_then F X.kept B.kept;
        holds = B.holds;
      }

      pub passing_stop : {e : PlanError} → Answered {T = T} (Err e) (judge i) → PassedBy {T = T} F (λ (V : State). H V (i + 1)) W U (Err e) → Whole {T = T} U (Err e)
      passing_stop {e} A B = (
        record { is = A.is ∙ sym (first_stops judge n i l (refused_number A)) ∙ X.judged },
        record { kept = kept_then F X.kept B.kept; holds = tt },
      )

    pub passing_end : (x : T) → i ≡ n → Whole W (Ok x)
    passing_end x z = (
      record { is = sym (first_end judge n i (omega arith)) ∙ X.judged },
      record { kept = X.kept; holds = subst (H W) z X.holds },
    )
