-- A step of the backward pass: what it stores, what it keeps, and its ways by what is recorded.
use Rattle.std.specs.Prelude.{◌≡◌, refl, ℕ, ◌<◌, pos, Ok}
use Rattle.std.proofs.Common.{sym, ◌∙◌, arith}
use Rattle.std.proofs.Math.Path.{ap}
use Rattle.memory.specs.State.{State, put_act, fill_act}
use Rattle.memory.specs.StateLaws.{act_field, fill_act_field}
use Rattle.memory.specs.Fields.{late_start, late_finish}
use Rattle.topology.specs.Frame.{Frame}
use Rattle.topology.specs.FrameLaws.{frame_then, frame_put, frame_fill}
use Rattle.placing.specs.declared.Actual.{Actual}
use Rattle.placing.specs.declared.Actual.TheVariants.{Unstarted, Begun, Completed}
use Rattle.order.specs.Plan.{Plan}
use Rattle.passes.specs.Plan.{recorded}
use Rattle.passes.specs.Dates.{Early, Late, leaves, put}
use Rattle.passes.specs.Backward.{late, backward_by, backward}
use Rattle.dates.specs.Columns.{late_in}
use Rattle.dates.specs.ColumnLaws.{column_same, column_put, column_fill}
use Rattle.late.specs.Times.{unfinished_late}
use Rattle.backward.specs.Stored.{stored, filled}

-- ---- late dates stored
module _ (p : Plan) (S : State) (i s f : ℕ) where
  pub stored_late : (d : Early) (last : ℕ) → i < p.activities → late_in p (stored S i s f) last ≡ late p d (late_in p S last) i s f
  stored_late d last l =
      let T : State = put_act S late_start i s in
      let a = column_same p.activities (λ j. last) late_start T (stored S i s f) (act_field T late_finish i (pos f) late_start (λ e. omega arith))
      ∙ column_put p.activities (λ j. last) late_start S i s l in
      let b = column_put p.activities (λ j. last) late_finish T i f l
      ∙ ap (λ (g : ℕ → ℕ). put g i f) (column_same p.activities (λ j. last) late_finish S T (act_field S late_start i (pos s) late_finish (λ e. omega arith))) in
      λ z. record { ls = a z; lf = b z }

  pub stored_frame : Frame 10 12 0 0 S (stored S i s f)
  stored_frame =
      frame_then 10 12 0 0 (frame_put 10 12 0 0 late_start (omega arith) (omega arith) S i (pos s))
      (frame_put 10 12 0 0 late_finish (omega arith) (omega arith) (put_act S late_start i s) i (pos f))

-- ---- both fields filled with the end
module _ (p : Plan) (S : State) (v : ℕ) where
  pub filled_late : late_in p (filled S p.activities v) v ≡ record { ls = λ i. v; lf = λ i. v }
  filled_late =
      let n = p.activities in
      let T : State = fill_act S late_start n v in
      let a = column_same n (λ j. v) late_start T (filled S n v) (fill_act_field T late_finish v n late_start (λ e. omega arith)) ∙ column_fill n S late_start v in
      let b = column_fill n T late_finish v in
      λ z. record { ls = a z; lf = b z }

  pub filled_frame : (n : ℕ) → Frame 10 12 0 0 S (filled S n v)
  filled_frame n =
      frame_then 10 12 0 0 (frame_fill 10 12 0 0 late_start (omega arith) (omega arith) S n v)
      (frame_fill 10 12 0 0 late_finish (omega arith) (omega arith) (fill_act S late_start n v) n v)

-- ---- the step by what is recorded
module _ (p : Plan) (d : Early) (last : ℕ) (l : Late) (i : ℕ) where
  pub back_completed : (s f : ℕ) → recorded p i ≡ Ok (Completed s f) → backward p d last l i ≡ leaves (late p d l i (d.es i) (d.ef i))
  unfolding backward
  back_completed s f e = ap (backward_by p d l last i) e

  -- not completed
  pub back_unfinished : (a : Actual) → Ok a ≡ recorded p i → ((s f : ℕ) → a ≡ Completed s f → ⊥)
      → backward p d last l i ≡ unfinished_late p d l i last
  unfolding backward
  back_unfinished Unstarted e m = ap (backward_by p d l last i) (sym e)
  back_unfinished (Begun s) e m = ap (backward_by p d l last i) (sym e)
  back_unfinished (Completed s f) e m = absurd (m s f refl)
