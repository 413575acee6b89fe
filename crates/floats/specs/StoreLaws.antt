-- What is stored of an activity's free float and held late move, as the definition has it.
use Rattle.std.specs.Prelude.{◌≡◌, refl, Bool, true, false, ◌&&◌, ℕ, ◌<◌, pos, Result, Ok, Err}
use Rattle.dates.specs.declared.Span.{Span}
use Rattle.floats.specs.Slack.{moved_to}
use Rattle.worktime.specs.declared.ClockError.{ClockError}
use Rattle.std.proofs.Common.{sym, ap, ◌∙◌, arith, lt-ltb, le-ltb}
use Rattle.std.proofs.Math.Dec.{ltb}
use Rattle.worktime.specs.Reads.{on_true, on_false}
use Rattle.project.specs.declared.ActivityKind.{ActivityKind}
use Rattle.project.specs.declared.Activity.{Activity}
use Rattle.placing.specs.declared.Actual.{Actual}
use Rattle.memory.specs.State.{State, put_act, fill_act}
use Rattle.memory.specs.Fields.{late_finish, early_start, early_finish, work_left, free_float}
use Rattle.placing.proofs.PlacingLaws.{via_at, via_refused}
use Rattle.topology.specs.Frame.{Frame}
use Rattle.topology.specs.FrameLaws.{frame_then, frame_put}
use Rattle.order.specs.Plan.{Plan}
use Rattle.order.specs.Ids.{summary}
use Rattle.passes.specs.Plan.{own, kind_of, origin, recorded}
use Rattle.passes.specs.Dates.{Early, leaves, refused, put}
use Rattle.passes.specs.Forward.{early}
use Rattle.passes.specs.Floats as floats
use Rattle.passes.specs.Floats.{holds_late, held_move, freed}
use Rattle.dates.specs.Columns.{left_in, early_in, late_in, free_in}
use Rattle.dates.specs.ColumnLaws.{put_is, column_at, column_put, column_fill}
use Rattle.floats.specs.Slack.{freed_in, marked_late, dates_moved, on_moved, stored, free_of}
use Rattle.floats.specs.SlackLaws.{holds_late_summary, holds_late_else, held_move_is, free_is}

-- a function with its own value put is itself
put_same : (f : ℕ → ℕ) (i : ℕ) → f ≡ put f i (f i)
put_same f i = put_is f i (f i) f refl (λ j h. refl)

module _ (p : Plan) (S : State) (i : ℕ) (l : i < p.activities) where
  -- ---- the memory's dates of activity i
  pub es_at : (early_in p S).es i ≡ S.act early_start i
  es_at = column_at p.activities (λ j. origin p) early_start S i l

  pub ef_at : (early_in p S).ef i ≡ S.act early_finish i
  ef_at = column_at p.activities (λ j. origin p) early_finish S i l

  pub left_at : (early_in p S).left i ≡ S.act work_left i
  left_at = column_at p.activities (λ j. 0) work_left S i l

  pub lf_at : (e : ℕ) → (late_in p S e).lf i ≡ S.act late_finish i
  lf_at e = column_at p.activities (λ j. e) late_finish S i l

  -- ---- stores
  pub free_stored : (v : ℕ) → freed_in p (put_act S free_float i v) ≡ record { early = early_in p S; free = put (free_in p S) i v }
  free_stored v = λ z. record { early = early_in p S; free = column_put p.activities (λ j. 0) free_float S i v l z }

  pub move_stored : (s f : ℕ)
      → freed_in p (stored S i s f) ≡ record { early = early p (early_in p S) i s f ((early_in p S).left i); free = put (free_in p S) i 0 }
  move_stored s f = λ z. record {
    early = record {
      es = column_put p.activities (λ j. origin p) early_start S i s l z;
      ef = column_put p.activities (λ j. origin p) early_finish S i f l z;
      left = put_same (left_in p S) i z;
    };
    free = column_put p.activities (λ j. 0) free_float S i 0 l z;
  }

pub stored_frame : (S : State) (i s f : ℕ) → Frame 12 16 0 0 S (stored S i s f)
stored_frame S i s f =
    frame_then 12 16 0 0 (frame_put 12 16 0 0 early_start (omega arith) (omega arith) S i (pos s))
    (frame_then 12 16 0 0 (frame_put 12 16 0 0 early_finish (omega arith) (omega arith) (put_act S early_start i s) i (pos f))
    (frame_put 12 16 0 0 free_float (omega arith) (omega arith) (put_act (put_act S early_start i s) early_finish i f) i (pos 0)))

-- ---- the ways of whether activity i is moved by n minutes
and_false : (b : Bool) → b && false ≡ false
and_false true = refl
and_false false = refl

and_true : (b : Bool) → b && true ≡ b
and_true true = refl
and_true false = refl

module _ (p : Plan) (d : Early) (i n : ℕ) where
  pub unmoved_none : n ≡ 0 → false ≡ (holds_late p d i && ltb 0 n)
  unmoved_none z = let e : ltb 0 n ≡ false = le-ltb 0 n (omega arith) in sym (ap (λ (b : Bool). holds_late p d i && b) e ∙ and_false (holds_late p d i))

  pub unmoved_summary : summary p i ≡ true → false ≡ (holds_late p d i && ltb 0 n)
  unmoved_summary s = sym (ap (λ (x : Bool). x && ltb 0 n) (holds_late_summary p d i s))

  pub moved_by_mark : summary p i ≡ false → (n ≡ 0 → ⊥) → (actual : Result Actual ClockError) → actual ≡ recorded p i
      → (activity : Activity) → activity ≡ p.activity i
      → marked_late p d actual activity.constraint activity.secondary_constraint ≡ (holds_late p d i && ltb 0 n)
  moved_by_mark s z actual r activity q =
      let e : ltb 0 n ≡ true = lt-ltb 0 n (omega (arith, z)) in
      (λ y. marked_late p d (r y) (q y).constraint (q y).secondary_constraint)
      ∙ sym
      (ap (λ (x : Bool). holds_late p d i && x) e ∙ and_true (holds_late p d i) ∙ holds_late_else p d i s)

-- ---- the ways of what becomes of a free float of n minutes
module _ (p : Plan) (S : State) (i n : ℕ) where
  pub freed_held : holds_late p (early_in p S) i && ltb 0 n ≡ true → freed p (early_in p S) i n (free_in p S) ≡ held_move p (early_in p S) i n (free_in p S)
  unfolding freed
  freed_held e = on_true (holds_late p (early_in p S) i && ltb 0 n) _ _ e

  pub freed_stays : holds_late p (early_in p S) i && ltb 0 n ≡ false
      → freed p (early_in p S) i n (free_in p S) ≡ leaves (record { early = early_in p S; free = put (free_in p S) i n })
  unfolding freed
  freed_stays e = on_false (holds_late p (early_in p S) i && ltb 0 n) _ _ e

  -- ---- the ways of the held late move, from the memory's dates
  module _ (l : i < p.activities) (w : ℕ → Bool) (o : w ≡ own p i) (kind : ActivityKind) (k : kind ≡ kind_of p i) (es ef left : ℕ)
      (a : es ≡ S.act early_start i) (b : ef ≡ S.act early_finish i) (c : left ≡ S.act work_left i) where
    by_dates : dates_moved w kind es ef left n
        ≡ dates_moved (own p i) (kind_of p i) ((early_in p S).es i) ((early_in p S).ef i) ((early_in p S).left i) n
    by_dates =
        let x : es ≡ (early_in p S).es i = a ∙ sym (es_at p S i l) in
        let y : ef ≡ (early_in p S).ef i = b ∙ sym (ef_at p S i l) in
        let z : left ≡ (early_in p S).left i = c ∙ sym (left_at p S i l) in
        λ q. dates_moved (o q) (k q) (x q) (y q) (z q) n

    pub held_to : (s f : ℕ) → dates_moved w kind es ef left n ≡ moved_to s f
        → leaves (freed_in p (stored S i s f)) ≡ held_move p (early_in p S) i n (free_in p S)
    held_to s f e =
        ap leaves (move_stored p S i l s f)
        ∙ sym
        (held_move_is p (early_in p S) i n (free_in p S)
        ∙ ap (λ (m : Result Span ClockError). on_moved refused m (λ s f. leaves (record { early = early p (early_in p S) i s f ((early_in p S).left i); free = put (free_in p S) i 0 })))
        (sym by_dates ∙ e))

    pub held_refused : (j : ClockError) → dates_moved w kind es ef left n ≡ Err j → refused j ≡ held_move p (early_in p S) i n (free_in p S)
    held_refused j e =
        sym
        (held_move_is p (early_in p S) i n (free_in p S)
        ∙ ap (λ (m : Result Span ClockError). on_moved refused m (λ s f. leaves (record { early = early p (early_in p S) i s f ((early_in p S).left i); free = put (free_in p S) i 0 })))
        (sym by_dates ∙ e))

-- ---- the ways of an activity's free float
module _ (p : Plan) (S : State) (i : ℕ) (l : i < p.activities) (finish e : ℕ) (x : Result ℕ ClockError) (h : x ≡ free_of p (early_in p S) finish (S.act late_finish i) i) where
  at_late_lem : x ≡ free_of p (early_in p S) finish ((late_in p S e).lf i) i
  at_late_lem = h ∙ ap (λ (u : ℕ). free_of p (early_in p S) finish u i) (sym (lf_at p S i l e))

  pub free_found : (n : ℕ) → x ≡ Ok n → freed p (early_in p S) i n (free_in p S) ≡ floats.free_float p finish (late_in p S e) (freed_in p S) i
  free_found n a =
      sym (free_is p finish (late_in p S e) (freed_in p S) i ∙ via_at refused _ (λ n. freed p (early_in p S) i n (free_in p S)) n (sym at_late_lem ∙ a))

  pub free_refused : (k : ClockError) → x ≡ Err k → refused k ≡ floats.free_float p finish (late_in p S e) (freed_in p S) i
  free_refused k a =
      sym (free_is p finish (late_in p S e) (freed_in p S) i ∙ via_refused refused _ (λ n. freed p (early_in p S) i n (free_in p S)) k (sym at_late_lem ∙ a))

-- ---- before the pass: no free float, and the early dates as they are
pub free_cleared : (p : Plan) (S : State) → freed_in p (fill_act S free_float p.activities 0) ≡ record { early = early_in p S; free = λ i. 0 }
free_cleared p S = λ z. record { early = early_in p S; free = column_fill p.activities S free_float 0 z }
