-- The ways of a link whose ends are known: one of them is marked as a summary or none, and the lag is too long or not.
use Rattle.std.specs.Prelude.{◌≡◌, Bool, true, false, ◌||◌, ℕ, ltb, Some, None, Ok, Err}
use Rattle.std.proofs.Common.{sym, ◌∙◌}
use Rattle.memory.specs.State.{State}
use Rattle.memory.specs.Fields.{is_summary}
use Rattle.order.specs.Plan.{Plan}
use Rattle.order.specs.Ties.{ignored, tie_too_long}
use Rattle.order.specs.declared.PlanError.TheVariants.{TooLong}
use Rattle.order.proofs.CheckLaws.{link_ignored, link_long, link_kept}
use Rattle.ids.specs.Parented.{Parented}
use Rattle.network.specs.Links.{Link}
use Rattle.ties.specs.Ends.{Between}
use Rattle.ties.specs.Checked.{LinkAnswered}
use Rattle.ties.specs.TieSteps.{marked_ignored}

module _ (p : Plan) (S : State) (P : Parented p S p.activities) (k : ℕ) (ends : Link) (E : Between p k ends.from ends.to) (marked : Bool)
    (m : marked ≡ (ltb 0 (S.act is_summary ends.from) || ltb 0 (S.act is_summary ends.to))) where
  is_ignored : ignored p k ≡ marked
  is_ignored = sym (m ∙ marked_ignored p k ends.from ends.to E S P)

  pub check_ignored : marked ≡ true → LinkAnswered p k (Ok None)
  check_ignored t = let e = is_ignored ∙ t in (link_ignored p k E.known_from E.known_to E.apart e, e)

  module _ (f : marked ≡ false) (long : Bool) (is : long ≡ tie_too_long p k) where
    pub check_long : long ≡ true → LinkAnswered p k (Err TooLong)
    check_long e = link_long p k E.known_from E.known_to E.apart (is_ignored ∙ f) (sym is ∙ e)

    pub check_kept : long ≡ false → LinkAnswered p k (Ok (Some ends))
    check_kept e = let i = is_ignored ∙ f in (link_kept p k E.known_from E.known_to E.apart i (sym is ∙ e), i, E)
