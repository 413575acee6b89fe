-- The run from its stages: where one is refused, and where all are done.
use Rattle.std.specs.Prelude.{◌≡◌, refl, Bool, reverse, ℕ, Result, Ok, Err}
use Rattle.worktime.specs.declared.ClockError.{ClockError}
use Rattle.std.proofs.Math.Path.{sym, ap}
use Rattle.std.proofs.Common.{◌∙◌}
use Rattle.placing.specs.Placing.{via}
use Rattle.order.specs.Plan.{Plan}
use Rattle.order.specs.Checks.{order}
use Rattle.passes.specs.Dates.{Early, Late, Freed, Pass, leaves, refused, after, through}
use Rattle.passes.specs.Backward.{finish, end, backward}
use Rattle.passes.specs.Run.{Ran, remaining, forward_pass, backward_pass, free_pass, path_pass, run}
use Rattle.run.specs.Stages.{Floated, early_dates, free_dates, float_dates}

after_is : {A B : Type 0} (go : A → Pass B) (x : Pass A) (y : A) → x ≡ leaves y → after x go ≡ go y
after_is go x y e = rw e

after_stops : {A B : Type 0} (go : A → Pass B) (x : Pass A) (k : ClockError) → x ≡ refused k → after x go ≡ refused k
after_stops go x k e = rw e

-- one after the other, in either grouping
after_after : {A B C : Type 0} (x : Pass A) (f : A → Pass B) (g : B → Pass C) → after (after x f) g ≡ after x (λ a. after (f a) g)
after_after (leaves a) f g = refl
after_after (refused k) f g = refl

module _ (p : Plan) where
  last : (Early → Late → Freed → Pass Ran)
  last d l x = after (path_pass p (finish p d) x.early) (λ path. leaves (record { early = x.early; late = l; free = x.free; path = path }))

  late : Early → Late → Pass Ran
  late d l = after (free_pass p d l) (last d l)

  early : Early → Pass Ran
  early d = after (backward_pass p d) (late d)

  run_early : run p ≡ after (early_dates p) early
  unfolding run early late last
  run_early = sym (after_after (remaining p) (forward_pass p) early)

  -- ---- where a stage is refused
  pub early_refused : (k : ClockError) → early_dates p ≡ refused k → run p ≡ refused k
  early_refused k e = run_early ∙ after_stops early (early_dates p) k e

  module _ (d : Early) (e : early_dates p ≡ leaves d) where
    run_late : run p ≡ after (backward_pass p d) (late d)
    unfolding early
    run_late = run_early ∙ after_is early (early_dates p) d e

    pub late_refused : (k : ClockError) → backward_pass p d ≡ refused k → run p ≡ refused k
    late_refused k h = run_late ∙ after_stops (late d) (backward_pass p d) k h

    module _ (l : Late) (h : backward_pass p d ≡ leaves l) where
      whole : Floated → Pass Ran
      whole y = leaves (record { early = y.early; late = l; free = y.free; path = y.path })

      -- the run ends with the stage of the floats
      paths : (x : Freed)
          → last d l x ≡ after (after (path_pass p (finish p d) x.early) (λ path. leaves (record { early = x.early; free = x.free; path = path }))) whole
      unfolding last whole
      paths x = sym (after_after (path_pass p (finish p d) x.early) _ whole)

      over : (y : Pass Freed) → after y (last d l) ≡ after (after y (λ x. after (path_pass p (finish p d) x.early) (λ path. leaves (record { early = x.early; free = x.free; path = path })))) whole
      over (leaves x) = paths x
      over (refused k) = refl

      run_floats : run p ≡ after (float_dates p (finish p d) d l) whole
      unfolding late free_pass
      run_floats = run_late ∙ after_is (late d) (backward_pass p d) l h ∙ over (free_dates p (finish p d) d l)

      pub floats_refused : (k : ClockError) → float_dates p (finish p d) d l ≡ refused k → run p ≡ refused k
      floats_refused k g = run_floats ∙ after_stops whole (float_dates p (finish p d) d l) k g

      pub run_done : (y : Floated) → float_dates p (finish p d) d l ≡ leaves y → run p ≡ leaves (record { early = y.early; late = l; free = y.free; path = y.path })
      unfolding whole
      run_done y g = run_floats ∙ after_is whole (float_dates p (finish p d) d l) y g

  -- ---- the late dates by the end
  module _ (d : Early) where
    pub end_refused : (k : ClockError) → end p d ≡ Err k → backward_pass p d ≡ refused k
    unfolding backward_pass
    end_refused k e = ap (λ (w : Result ℕ ClockError). via refused w (λ e. through (backward p d e) (reverse (order p)) (record { ls = λ i. e; lf = λ i. e }))) e

    pub end_at : (t : ℕ) → end p d ≡ Ok t → backward_pass p d ≡ through (backward p d t) (reverse (order p)) (record { ls = λ i. t; lf = λ i. t })
    unfolding backward_pass
    end_at t e = ap (λ (w : Result ℕ ClockError). via refused w (λ e. through (backward p d e) (reverse (order p)) (record { ls = λ i. e; lf = λ i. e }))) e

  -- ---- the early dates by the work left
  pub left_refused : (k : ClockError) → remaining p ≡ refused k → early_dates p ≡ refused k
  left_refused k e = after_stops (forward_pass p) (remaining p) k e

  pub left_leaves : (left : ℕ → ℕ) → remaining p ≡ leaves left → early_dates p ≡ forward_pass p left
  left_leaves left e = after_is (forward_pass p) (remaining p) left e

  -- ---- the floats by the free floats
  module _ (f : ℕ) (d : Early) (l : Late) where
    pub free_refused : (k : ClockError) → free_dates p f d l ≡ refused k → float_dates p f d l ≡ refused k
    free_refused k e = after_stops _ (free_dates p f d l) k e

    module _ (x : Freed) (e : free_dates p f d l ≡ leaves x) where
      then_path : float_dates p f d l ≡ after (path_pass p f x.early) (λ path. leaves (record { early = x.early; free = x.free; path = path }))
      then_path = after_is _ (free_dates p f d l) x e

      pub path_refused : (k : ClockError) → path_pass p f x.early ≡ refused k → float_dates p f d l ≡ refused k
      path_refused k h = then_path ∙ after_stops _ (path_pass p f x.early) k h

      pub path_done_lem : (path : ℕ → Bool) → path_pass p f x.early ≡ leaves path → float_dates p f d l ≡ leaves (record { early = x.early; free = x.free; path = path })
      path_done_lem path h = then_path ∙ after_is _ (path_pass p f x.early) path h
