-- One law for each way through an activity's late constraints.
use Rattle.std.specs.Prelude.{◌≡◌, ◌⊎◌, true, false, ℕ, min, Result, Ok, Err, Option, Some, None}
use Rattle.worktime.specs.declared.ClockError.{ClockError}
use Rattle.std.proofs.Common.{sym, ◌∙◌, inl, inr}
use Rattle.std.proofs.Math.Path.{ap}
use Rattle.worktime.specs.Reads.{on_true, on_false}
use Rattle.date.specs.declared.Date.{Date}
use Rattle.project.specs.declared.Constraint.{Constraint}
use Rattle.project.specs.declared.Constraint.TheVariants.{StartOnOrBefore, StartOn}
use Rattle.project.specs.Status.{on_start, bounds_start}
use Rattle.placing.specs.declared.Actual.{Actual}
use Rattle.placing.specs.declared.Actual.TheVariants.{Unstarted, Begun, Completed}
use Rattle.placing.specs.Placing.{via, bounded, constraint_time, finish_for_start_by}
use Rattle.placing.proofs.PlacingLaws.{via_at, via_refused}
use Rattle.order.specs.Plan.{Plan}
use Rattle.order.specs.Ids.{summary}
use Rattle.passes.specs.Plan.{own, origin, recorded}
use Rattle.passes.specs.Dates.{Early, Late}
use Rattle.passes.specs.Forward.{on_time}
use Rattle.passes.specs.Backward.{at_late, limited, limited_by, held_late}

module _ (p : Plan) (d : Early) (l : Late) (i : ℕ) where
  -- ---- one constraint
  pub late_start : (c : Constraint) (latest t : ℕ) → ((x : Date) × (c ≡ StartOnOrBefore x)) ⊎ ((x : Date) × (c ≡ StartOn x))
      → at_late p d l i (Some c) t latest ≡ via Err (finish_for_start_by (own p i) (d.left i) t) (λ f. Ok (min latest f))
  late_start c latest t (inl (x, e)) = rw e
  late_start c latest t (inr (x, e)) = rw e

  pub limited_free : {c : Option Constraint} (latest : ℕ) → c ≡ None → limited p d l i c latest ≡ Ok latest
  unfolding limited on_start constraint_time
  limited_free latest e = rw e

  module _ {c k : Option Constraint} (h : c ≡ k) (latest : ℕ) where
    by_time : {m : Result (Option ℕ) ClockError} → constraint_time (own p i) (on_start k) ≡ m → limited p d l i c latest ≡ on_time p d m (Ok latest) (λ t. at_late p d l i k t latest)
    unfolding limited
    by_time e =
        ap (λ (x : Option Constraint). limited p d l i x latest) h ∙ ap (λ (m : Result (Option ℕ) ClockError). on_time p d m (Ok latest) (λ t. at_late p d l i k t latest)) e

    pub limited_at : (t b : ℕ) → constraint_time (own p i) (on_start k) ≡ (Ok (Some t)) → bounded (origin p) t ≡ Ok b → limited p d l i c latest ≡ at_late p d l i k b latest
    limited_at t b e f = by_time e ∙ via_at Err _ _ b f

    pub limited_beyond : (t : ℕ) (r : ClockError) → constraint_time (own p i) (on_start k) ≡ (Ok (Some t)) → bounded (origin p) t ≡ Err r → limited p d l i c latest ≡ Err r
    limited_beyond t r e f = by_time e ∙ via_refused Err _ _ r f

    pub limited_nowhere : constraint_time (own p i) (on_start k) ≡ (Ok None) → limited p d l i c latest ≡ Ok latest
    limited_nowhere e = by_time e

    pub limited_refused : (r : ClockError) → constraint_time (own p i) (on_start k) ≡ Err r → limited p d l i c latest ≡ Err r
    limited_refused r e = by_time e

  module _ (c : Option Constraint) (latest : ℕ) where
    -- ---- by what is recorded
    pub by_unstarted : (a : Actual) → a ≡ Unstarted → limited_by p d l i (Ok a) c latest ≡ limited p d l i c latest
    by_unstarted a e = ap (λ (x : Actual). limited_by p d l i (Ok x) c latest) e

    pub by_begun_start : (a : Actual) (s : ℕ) → a ≡ Begun s → bounds_start c ≡ true → limited_by p d l i (Ok a) c latest ≡ Ok latest
    by_begun_start a s e f = ap (λ (x : Actual). limited_by p d l i (Ok x) c latest) e ∙ on_true (bounds_start c) (Ok latest) (limited p d l i c latest) f

    pub by_begun : (a : Actual) (s : ℕ) → a ≡ Begun s → bounds_start c ≡ false → limited_by p d l i (Ok a) c latest ≡ limited p d l i c latest
    by_begun a s e f = ap (λ (x : Actual). limited_by p d l i (Ok x) c latest) e ∙ on_false (bounds_start c) (Ok latest) (limited p d l i c latest) f

    pub by_completed : (a : Actual) (s f : ℕ) → a ≡ Completed s f → limited_by p d l i (Ok a) c latest ≡ Ok latest
    by_completed a s f e = ap (λ (x : Actual). limited_by p d l i (Ok x) c latest) e

    pub by_refused : (a : Result Actual ClockError) (k : ClockError) → a ≡ Err k → limited_by p d l i a c latest ≡ Err k
    by_refused a k e = ap (λ (x : Result Actual ClockError). limited_by p d l i x c latest) e

  -- ---- both, in turn
  module _ (latest : ℕ) where
    pub held_summary : summary p i ≡ true → held_late p d l i latest ≡ Ok latest
    unfolding held_late
    held_summary e = on_true (summary p i) (Ok latest) _ e

    module _ (e : summary p i ≡ false) (a : Result Actual ClockError) (r : a ≡ recorded p i) (c₁ c₂ : Option Constraint) (q₁ : c₁ ≡ (p.activity i).constraint)
        (q₂ : c₂ ≡ (p.activity i).secondary_constraint) where
      held_both : held_late p d l i latest ≡ via Err (limited_by p d l i a c₁ latest) (limited_by p d l i a c₂)
      unfolding held_late
      held_both =
          on_false (summary p i) (Ok latest) _ e
          ∙ (λ z. via Err (limited_by p d l i (sym r z) (sym q₁ z) latest) (limited_by p d l i (sym r z) (sym q₂ z)))

      pub held_second : (f : ℕ) → limited_by p d l i a c₁ latest ≡ Ok f → held_late p d l i latest ≡ limited_by p d l i a c₂ f
      held_second f h = held_both ∙ via_at Err _ _ f h

      pub held_refused : (k : ClockError) → limited_by p d l i a c₁ latest ≡ Err k → held_late p d l i latest ≡ Err k
      held_refused k h = held_both ∙ via_refused Err _ _ k h
