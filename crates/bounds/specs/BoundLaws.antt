-- One law for each way out of a link's bound and of the start that it leaves.
use Rattle.std.specs.Prelude.{◌≡◌, refl, true, false, ℕ, ℤ, Result, Ok, Err}
use Rattle.worktime.specs.declared.ClockError.{ClockError}
use Rattle.std.proofs.Math.Path.{sym, ap₂}
use Rattle.std.proofs.Common.{ap, ◌∙◌}
use Rattle.worktime.specs.Walks.{shift}
use Rattle.project.specs.declared.RelationshipType.{RelationshipType}
use Rattle.project.specs.declared.RelationshipType.TheVariants.{FinishToStart, StartToStart, FinishToFinish, StartToFinish}
use Rattle.placing.specs.Placing.{via, bounded, start_for_finish}
use Rattle.placing.proofs.PlacingLaws.{via_at, via_refused}
use Rattle.order.specs.Plan.{Plan}
use Rattle.order.specs.Ties.{Tie}
use Rattle.passes.specs.Plan.{own, lag_own, origin}
use Rattle.passes.specs.Forward.{source_of, forward_bound, start_for}
use Rattle.dates.specs.Standing.{leads_to_finish}

module _ (p : Plan) where
  -- ---- the start that a bound leaves, by the end that the link leads to
  module _ (i left : ℕ) (kind : RelationshipType) (b : ℕ) where
    pub bound_is_start : leads_to_finish kind ≡ false → start_for p i left kind b ≡ Ok b
    bound_is_start e = by kind e
      where
        by : (k : RelationshipType) → leads_to_finish k ≡ false → start_for p i left k b ≡ Ok b
        by FinishToStart h = refl
        by StartToStart h = refl
        by FinishToFinish h = let z : true ≡ false = h in cc
        by StartToFinish h = let z : true ≡ false = h in cc

    pub bound_is_finish : leads_to_finish kind ≡ true → start_for p i left kind b ≡ start_for_finish (own p i) left b
    bound_is_finish e = by kind e
      where
        by : (k : RelationshipType) → leads_to_finish k ≡ true → start_for p i left k b ≡ start_for_finish (own p i) left b
        by FinishToFinish h = refl
        by StartToFinish h = refl
        by FinishToStart h = let z : false ≡ true = h in cc
        by StartToStart h = let z : false ≡ true = h in cc

  -- ---- the bound: the predecessor's date moved by the lag, and bounded
  module _ (t : Tie) (es ef source : ℕ) (lag : ℤ) (s : source ≡ source_of p t.kind es ef) (z : lag ≡ t.lag) where
    from_moved : (x : Result ℕ ClockError) → x ≡ shift (lag_own p t) source lag → forward_bound p t es ef ≡ via Err x (bounded (origin p))
    unfolding forward_bound
    from_moved x e = sym (ap (λ (w : Result ℕ ClockError). via Err w (bounded (origin p))) (e ∙ ap₂ (shift (lag_own p t)) s z))

    pub bound_at : (x : Result ℕ ClockError) (u o : ℕ) → x ≡ shift (lag_own p t) source lag → x ≡ Ok u → o ≡ origin p → forward_bound p t es ef ≡ bounded o u
    bound_at x u o e a q = from_moved x e ∙ via_at Err x (bounded (origin p)) u a ∙ ap (λ (v : ℕ). bounded v u) (sym q)

    pub bound_refused : (x : Result ℕ ClockError) (k : ClockError) → x ≡ shift (lag_own p t) source lag → x ≡ Err k → forward_bound p t es ef ≡ Err k
    bound_refused x k e a = from_moved x e ∙ via_refused Err x (bounded (origin p)) k a
