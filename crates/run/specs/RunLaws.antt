-- The stages by the ways of the code: what stands in the memory after a stage's passes is what the stage leaves.
use Rattle.std.specs.Prelude.{◌≡◌, refl, reverse, ℕ, Result, Ok, Err}
use Rattle.worktime.specs.declared.ClockError.{ClockError}
use Rattle.std.proofs.Math.Path.{sym}
use Rattle.std.proofs.Common.{ap, ◌∙◌, subst, arith}
use Rattle.memory.specs.State.{State}
use Rattle.topology.specs.Frame.{Frame}
use Rattle.order.specs.Plan.{Plan}
use Rattle.order.specs.Checks.{order}
use Rattle.passes.specs.Dates.{Late, Freed, Pass, leaves, refused, through}
use Rattle.passes.specs.Backward.{finish, end, backward}
use Rattle.passes.specs.Floats.{last_ones}
use Rattle.passes.specs.Run.{remaining, forward_pass, path_pass}
use Rattle.dates.specs.Columns.{left_in, early_in, late_in, free_in, path_in, ended}
use Rattle.dates.specs.KeptLaws.{early_kept, late_kept, free_kept}
use Rattle.run.specs.Stages.{Floated, early_dates, free_dates, float_dates, LateIn, floated_in, RunIn}
use Rattle.run.specs.StageLaws.{early_refused, late_refused, floats_refused, run_done, end_refused, end_at, left_refused, left_leaves, free_refused, path_refused, path_done_lem}

-- a pass by its answer
stopped : {A : Type 0} (x : A) (q : Pass A) (r : Result Unit ClockError) (k : ClockError) → ended x r ≡ q → r ≡ Err k → q ≡ refused k
stopped x q r k e d = sym e ∙ ap (ended x) d

left : {A : Type 0} (x : A) (q : Pass A) (r : Result Unit ClockError) → ended x r ≡ q → r ≡ Ok tt → q ≡ leaves x
left x q r e d = sym e ∙ ap (ended x) d

-- a refusal is not the end of a pass
pub not_done : {A : Type 0} (k : ClockError) → ◌≡◌ {A = Result Unit ClockError} (Err k) (Ok tt) → A
not_done k e = let z : ◌≡◌ {A = ℕ} 0 1 = cc in absurd (omega arith)

pub not_by : {A : Type 0} (k : ClockError) (e : ℕ) → ◌≡◌ {A = Result ℕ ClockError} (Err k) (Ok e) → A
not_by k e h = let z : ◌≡◌ {A = ℕ} 0 1 = cc in absurd (omega arith)

module _ (p : Plan) where
  -- ---- early dates
  pub early_stops : (S T : State) (r : Result Unit ClockError) (k : ClockError) → ended (left_in p S) r ≡ remaining p → r ≡ Err k → ended (early_in p T) (Err k) ≡ early_dates p
  early_stops S T r k e d = sym (left_refused p k (stopped (left_in p S) (remaining p) r k e d))

  pub early_goes : (S T : State) (r q : Result Unit ClockError) → ended (left_in p S) r ≡ remaining p → r ≡ Ok tt → ended (early_in p T) q ≡ forward_pass p (left_in p S) → ended (early_in p T) q ≡ early_dates p
  early_goes S T r q e d g = g ∙ sym (left_leaves p (left_in p S) (left (left_in p S) (remaining p) r e d))

  -- ---- floats and the longest path, from the dates in S; T₁ is what the free floats leave, and T the longest path
  module _ (f : ℕ) (S T₁ T : State) where
    freed : Freed
    freed = record { early = early_in p T₁; free = free_in p T₁ }

    module _ (r : Result Unit ClockError) (free : (e : ℕ) → ended (record { early = early_in p T₁; free = free_in p T₁ }) r ≡ free_dates p f (early_in p S) (late_in p S e)) where
      pub floats_stop : (k : ClockError) → r ≡ Err k → (e : ℕ) → ended (floated_in p f T) (Err k) ≡ float_dates p f (early_in p S) (late_in p S e)
      unfolding freed
      floats_stop k d e = sym (free_refused p f (early_in p S) (late_in p S e) k (stopped freed (free_dates p f (early_in p S) (late_in p S e)) r k (free e) d))

      module _ (F : Frame 16 17 0 0 T₁ T) (d : r ≡ Ok tt) where
        freely : (e : ℕ) → free_dates p f (early_in p S) (late_in p S e) ≡ leaves freed
        unfolding freed
        freely e = left freed (free_dates p f (early_in p S) (late_in p S e)) r (free e) d

        same : early_in p T ≡ early_in p T₁
        same = early_kept F p refl refl refl

        by_path : (q : Result Unit ClockError) (e : ℕ) → ended (path_in p T (last_ones p (early_in p T₁) f)) q ≡ path_pass p f (early_in p T₁)
            → ended (record { early = early_in p T₁; free = free_in p T₁; path = path_in p T (last_ones p (early_in p T₁) f) }) q ≡ float_dates p f (early_in p S) (late_in p S e)
        unfolding freed
        by_path (Ok tt) e g =
            sym (path_done_lem p f (early_in p S) (late_in p S e) freed (freely e) (path_in p T (last_ones p (early_in p T₁) f)) (sym g))
        by_path (Err k) e g = sym (path_refused p f (early_in p S) (late_in p S e) freed (freely e) k (sym g))

        pub floats_go : (q : Result Unit ClockError) → ended (path_in p T (last_ones p (early_in p T₁) f)) q ≡ path_pass p f (early_in p T₁)
            → (e : ℕ) → ended (floated_in p f T) q ≡ float_dates p f (early_in p S) (late_in p S e)
        floats_go q g e =
            ap
            (λ (x : Floated). ended x q)
            (λ z. record { early = same z; free = free_kept F p refl z; path = path_in p T (last_ones p (same z) f) })
            ∙ by_path q e g

  -- ---- late dates
  module _ (S T : State) where
    pub late_ends : (k : ClockError) → end p (early_in p S) ≡ Err k → LateIn p (early_in p S) T (Err k)
    late_ends k e = end_refused p (early_in p S) k e

    module _ (last : ℕ) (e : end p (early_in p S) ≡ Ok last) (r : Result Unit ClockError)
        (g : ended (late_in p T last) r ≡ through (backward p (early_in p S) last) (reverse (order p)) (record { ls = λ i. last; lf = λ i. last })) where
      pub late_stops : (k : ClockError) → r ≡ Err k → LateIn p (early_in p S) T (Err k)
      late_stops k d = end_at p (early_in p S) last e ∙ stopped (late_in p T last) _ r k g d

      pub late_goes : r ≡ Ok tt → LateIn p (early_in p S) T (Ok last)
      late_goes d = end_at p (early_in p S) last e ∙ left (late_in p T last) _ r g d

  -- ---- all of it: S has the early dates, T₁ the late ones too, T all
  module _ (S : State) (early : ended (early_in p S) (Ok tt) ≡ early_dates p) where
    made : early_dates p ≡ leaves (early_in p S)
    made = sym early

    pub run_late : (T₁ T : State) (r : Result ℕ ClockError) (k : ClockError) → LateIn p (early_in p S) T₁ r → r ≡ Err k → RunIn p T (Err k)
    run_late T₁ T r k h d = late_refused p (early_in p S) made k (subst (LateIn p (early_in p S) T₁) d h)

    module _ (T₁ T : State) (last : ℕ) (F₁ : Frame 10 12 0 0 S T₁) (F : Frame 12 17 0 0 T₁ T) (late : LateIn p (early_in p S) T₁ (Ok last)) (f : ℕ) (finish_is : f ≡ finish p (early_in p S)) where
      -- the late stage left the early dates
      start_same : early_in p T₁ ≡ early_in p S
      start_same = early_kept F₁ p refl refl refl

      module _ (q : Result Unit ClockError) (floats : (e : ℕ) → ended (floated_in p f T) q ≡ float_dates p f (early_in p T₁) (late_in p T₁ e)) where
        floated : ended (floated_in p f T) q ≡ float_dates p (finish p (early_in p S)) (early_in p S) (late_in p T₁ last)
        floated = floats last ∙ (λ z. float_dates p (finish_is z) (start_same z) (late_in p T₁ last))

        pub run_floats : (k : ClockError) → q ≡ Err k → RunIn p T (Err k)
        run_floats k d = floats_refused p (early_in p S) made (late_in p T₁ last) late k (stopped (floated_in p f T) _ q k floated d)

        pub run_whole : q ≡ Ok tt → RunIn p T (Ok last)
        run_whole d = record {
          other = last_ones p (early_in p T) f;
          is =
              run_done p (early_in p S) made (late_in p T₁ last) late (floated_in p f T) (left (floated_in p f T) _ q floated d)
              ∙ ap
              (λ (l : Late). leaves (record { early = early_in p T; late = l; free = free_in p T; path = path_in p T (last_ones p (early_in p T) f) }))
              (sym (late_kept F p refl refl last));
        }

  pub run_early : (S T : State) (r : Result Unit ClockError) (k : ClockError) → ended (early_in p S) r ≡ early_dates p → r ≡ Err k → RunIn p T (Err k)
  run_early S T r k e d = early_refused p k (stopped (early_in p S) (early_dates p) r k e d)
