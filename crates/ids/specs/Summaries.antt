-- The answers of rows 11 and 12: fine, a milestone that is a parent, or a loop of parents.
use Rattle.std.specs.Prelude.{◌≡◌, ℕ, ◌≤◌, ◌<◌, Result, Ok, Err, ⊤}
use Rattle.network.specs.Parents.{loop_steps, upward}
use Rattle.order.specs.Plan.{Plan}
use Rattle.order.specs.Ids.{id_of, parent_of}
use Rattle.order.specs.Checks.{Verdict, refuse, fine, named, refuse_loop}
use Rattle.ids.specs.declared.SummaryError.{SummaryError}
use Rattle.ids.specs.declared.SummaryError.TheVariants.{Milestone, Loop}

module _ (p : Plan) where
  -- 11 with the milestone's id; 12 with the loop's names, from its first activity so many steps upward
  abbrev pub summary_verdict : {T : Type 0} → Result T SummaryError → Verdict
  summary_verdict (Ok x) = fine
  summary_verdict (Err (Milestone id)) = refuse 11 id
  summary_verdict (Err (Loop i steps)) = refuse_loop 12 (named (id_of p) (upward (parent_of p) steps i))

  -- `steps` lead from activity i to itself
  pub record LoopFrom (i steps : ℕ) : Type 0 where
    pub below : i < p.activities
    pub some : 0 < steps
    pub within : steps ≤ p.activities
    pub least : steps ≡ loop_steps (parent_of p) p.activities i

  -- what is known where a loop is answered
  abbrev pub LoopKnown : {T : Type 0} → Result T SummaryError → Type 0
  LoopKnown (Ok x) = ⊤
  LoopKnown (Err (Milestone id)) = ⊤
  LoopKnown (Err (Loop i steps)) = LoopFrom i steps

  -- r answers v
  pub record SummaryAnswered {T : Type 0} (r : Result T SummaryError) (v : Verdict) : Type 0 where
    pub is : summary_verdict r ≡ v
    pub loop : LoopKnown r
