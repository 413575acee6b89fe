-- Rows 11 and 12 by the ways of the code, and what follows where rows 6 to 10 are fine.
use Rattle.std.specs.Prelude.{◌≡◌, Bool, true, false, ◌&&◌, ◌≢◌, ℕ, ◌+◌, ◌-◌, ◌≤◌, ◌<◌, ltb, Ok, Err}
use Rattle.std.proofs.Common.{sym, ap, ◌∙◌, arith}
use Rattle.memory.specs.State.{State}
use Rattle.memory.specs.Fields.{parent, is_summary}
use Rattle.project.specs.Status.{is_milestone}
use Rattle.network.specs.Parents.{loop_steps, upward}
use Rattle.order.specs.Plan.{Plan}
use Rattle.order.specs.Ids.{id_of, parent_of, summary}
use Rattle.order.specs.IdLaws.{DistinctIds}
use Rattle.order.specs.Checks.{Verdict, refuse, refuse_loop, named, first_of, judge_activity, judge_parent, judge_summary}
use Rattle.order.proofs.CheckLaws.{summary_milestone, summary_loop, summary_passes}
use Rattle.order.specs.VerdictLaws.{first_end, first_passes, first_stops}
use Rattle.order.specs.FineLaws.{ParentsKnown}
use Rattle.order.proofs.FineLaws.{activities_fine_lem, parents_fine, fine_distinct}
use Rattle.order.specs.ParentLaws.{parent_le}
use Rattle.ids.specs.declared.SummaryError.{SummaryError}
use Rattle.ids.specs.declared.SummaryError.TheVariants.{Milestone, Loop}
use Rattle.ids.specs.Answers.{Answered}
use Rattle.ids.specs.AnswerLaws.{fine_number}
use Rattle.number.specs.Bit.{bit}
use Rattle.number.specs.BitLaws.{mark_flag}
use Rattle.ids.specs.Parented.{Parented}
use Rattle.ids.specs.Summaries.{SummaryAnswered}
use Rattle.ids.specs.ClimbSteps.{loop_steps_same}

module _ (p : Plan) where
  -- ---- after rows 6 to 9 ids are distinct, and after row 10 parents are known
  module _ {T : Type 0} {x : T} where
    pub indexed_distinct : Answered (Ok x) (first_of (judge_activity p) p.activities 0) → DistinctIds p
    indexed_distinct A = fine_distinct p ((activities_fine_lem p).0 (fine_number A))

    pub parented_known : Answered (Ok x) (first_of (judge_parent p) p.activities 0) → ParentsKnown p
    parented_known A = (parents_fine p).0 (fine_number A)

  -- the test of row 11
  abbrev pub milestone_parent : ℕ → Bool
  milestone_parent i = summary p i && is_milestone (p.activity i).kind

  module _ (S : State) (P : Parented p S p.activities) where
    pub marks_summary : (i : ℕ) → i < p.activities → S.act is_summary i ≡ bit (summary p i)
    unfolding summary
    marks_summary i l = P.marks i l

    module _ (i : ℕ) (l : i < p.activities) (mark : Bool) (e : mark ≡ ltb 0 (S.act is_summary i)) where
      pub is_marked : mark ≡ summary p i
      is_marked = e ∙ mark_flag (summary p i) (marks_summary i l)

      pub no_summary : mark ≡ false → mark ≡ milestone_parent i
      no_summary z = let q = sym is_marked ∙ z in rw q z

      pub summary_kind : mark ≡ true → is_milestone (p.activity i).kind ≡ milestone_parent i
      summary_kind t = let q = sym is_marked ∙ t in rw q

    module _ (K : ParentsKnown p) where
      pub parents_within : (j : ℕ) → j < p.activities → S.act parent j ≤ p.activities
      parents_within j l = omega (arith, P.parents j l, parent_le p K j l)

      module _ (i : ℕ) (l : i < p.activities) (steps : ℕ) (e : steps ≡ loop_steps (S.act parent) p.activities i) where
        pub steps_are : steps ≡ loop_steps (parent_of p) p.activities i
        steps_are = e ∙ loop_steps_same (S.act parent) (parent_of p) p.activities parents_within P.parents i l

        module _ (found : Bool) (m : found ≡ milestone_parent i) (task : found ≡ false) where
          pub answered_loop : {T : Type 0} → 0 < steps → steps ≤ p.activities → SummaryAnswered p {T = T} (Err (Loop i steps)) (judge_summary p i)
          answered_loop some within = record {
            is = ap (λ (k : ℕ). refuse_loop 12 (named (id_of p) (upward (parent_of p) k i))) steps_are ∙ sym (summary_loop p i (sym m ∙ task) (λ z. omega (arith, steps_are)));
            loop = record { below = l; some = some; within = within; least = steps_are };
          }

          pub answered_free : {T : Type 0} {x : T} → steps ≡ 0 → SummaryAnswered p (Ok x) (judge_summary p i)
          answered_free z = record { is = sym (summary_passes p i (sym m ∙ task) (sym steps_are ∙ z)); loop = tt }

  pub answered_milestone : {T : Type 0} (i id : ℕ) → id ≡ id_of p i → (found : Bool) → found ≡ milestone_parent i → found ≡ true
      → SummaryAnswered p {T = T} (Err (Milestone id)) (judge_summary p i)
  answered_milestone i id d found m t = record { is = ap (refuse 11) d ∙ sym (summary_milestone p i (sym m ∙ t)); loop = tt }

  summary_refused : {T : Type 0} {v : Verdict} (e : SummaryError) → SummaryAnswered p {T = T} (Err e) v → v.number ≢ 0
  summary_refused (Milestone id) A z = omega (arith, ap (λ (u : Verdict). u.number) A.is)
  summary_refused (Loop j steps) A z = omega (arith, ap (λ (u : Verdict). u.number) A.is)

  -- ---- all activities: those before i are fine
  module _ {T : Type 0} (i : ℕ) (J : first_of (judge_summary p) (p.activities - i) i ≡ first_of (judge_summary p) p.activities 0) where
    module _ (l : i < p.activities) where
      pub summaries_turn : {x : T} → SummaryAnswered p (Ok x) (judge_summary p i) → first_of (judge_summary p) (p.activities - (i + 1)) (i + 1) ≡ first_of (judge_summary p) p.activities 0
      summaries_turn A = sym (first_passes (judge_summary p) p.activities i l (ap (λ (u : Verdict). u.number) (sym A.is))) ∙ J

      pub summaries_stop : {e : SummaryError} → SummaryAnswered p {T = T} (Err e) (judge_summary p i) → SummaryAnswered p {T = T} (Err e) (first_of (judge_summary p) p.activities 0)
      summaries_stop {e} A = record {
        is = A.is ∙ sym (first_stops (judge_summary p) p.activities i l (summary_refused e A)) ∙ J;
        loop = A.loop;
      }

    pub summaries_end : (x : T) → p.activities ≤ i → SummaryAnswered p (Ok x) (first_of (judge_summary p) p.activities 0)
    summaries_end x l = record { is = sym (first_end (judge_summary p) p.activities i l) ∙ J; loop = tt }
