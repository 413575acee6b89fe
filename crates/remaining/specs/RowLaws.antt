-- A row that is kept, one that is refused, and the rows of a loop over all activities.
use Rattle.std.specs.Prelude.{◌≡◌, refl, ◌≢◌, pos, Result, Ok, Err}
use Rattle.worktime.specs.declared.ClockError.{ClockError}
use Rattle.std.proofs.Math.Path.{sym, ap}
use Rattle.std.proofs.Common.{◌∙◌, arith, add-one}
use Rattle.std.proofs.Math.Logic.{⊎_elim}
use Prim.Native.Nat.{ℕ, zero, suc, ◌+◌, ◌≤◌, ◌<◌}
use Rattle.number.specs.Order.{eq_or_ne}
use Rattle.placing.specs.declared.Actual.{Actual}
use Rattle.placing.specs.declared.Actual.TheVariants.{Unstarted, Begun, Completed}
use Rattle.placing.specs.Placing.{via}
use Rattle.memory.specs.State.{State, put_act}
use Rattle.memory.specs.StateLaws.{act_same, act_row}
use Rattle.memory.specs.Fields.{work_left, recorded_as, recorded_start, recorded_finish}
use Rattle.topology.specs.Frame.{Frame}
use Rattle.topology.specs.FrameLaws.{frame_refl, frame_then, frame_put}
use Rattle.order.specs.Plan.{Plan}
use Rattle.passes.specs.Plan.{recorded}
use Rattle.passes.specs.Dates.{Pass, leaves, refused, put}
use Rattle.passes.specs.Forward.{left_of, left_below}
use Rattle.passes.specs.Run.{remaining}
use Rattle.dates.specs.Columns.{left_in, ended}
use Rattle.dates.specs.ColumnLaws.{column_none, column_same, column_more}
use Rattle.dates.specs.Standing.{actual_of, actual_in, Recorded}
use Rattle.remaining.specs.Rows.{how_of, start_of, finish_of, kept, left_to, Row, Passed}

-- the three cells say what is recorded
cells_are : (x : Actual) → actual_of (how_of x) (start_of x) (finish_of x) ≡ x
unfolding actual_of
cells_are Unstarted = refl
cells_are (Begun s) = refl
cells_are (Completed s f) = refl

module _ (S : State) (i : ℕ) (x : Actual) (m : ℕ) where
  how : State
  how = put_act S recorded_as i (how_of x)

  began : State
  unfolding how
  began = put_act how recorded_start i (start_of x)

  ended' : State
  ended' = put_act began recorded_finish i (finish_of x)

  kept_left : left_to (i + 1) (kept S i x m) ≡ put (left_to i S) i m
  unfolding kept how began ended'
  kept_left =
      column_more i (λ j. 0) work_left ended' m ∙ ap (λ (f : ℕ → ℕ). put f i m) (column_same i (λ j. 0) work_left S ended' refl)

  kept_here : actual_in (kept S i x m) i ≡ x
  unfolding kept how began ended'
  kept_here =
      (λ z.
      actual_of (act_same S recorded_as i (pos (how_of x)) z) (act_same how recorded_start i (pos (start_of x)) z)
      (act_same began recorded_finish i (pos (finish_of x)) z))
      ∙ cells_are x

  kept_row : (g j : ℕ) → j ≢ i → (kept S i x m).act g j ≡ S.act g j
  unfolding kept how began ended'
  kept_row g j h =
      act_row ended' work_left i (pos m) g j h ∙ act_row began recorded_finish i (pos (finish_of x)) g j h
      ∙ act_row how recorded_start i (pos (start_of x)) g j h ∙ act_row S recorded_as i (pos (how_of x)) g j h

  kept_others : (j : ℕ) → j ≢ i → actual_in (kept S i x m) j ≡ actual_in S j
  kept_others j h = λ z. actual_of (kept_row recorded_as j h z) (kept_row recorded_start j h z) (kept_row recorded_finish j h z)

  kept_frame : Frame 14 20 0 0 S (kept S i x m)
  unfolding kept how began ended'
  kept_frame =
      frame_then 14 20 0 0 (frame_put 14 20 0 0 recorded_as (omega arith) (omega arith) S i (pos (how_of x)))
      (frame_then 14 20 0 0 (frame_put 14 20 0 0 recorded_start (omega arith) (omega arith) how i (pos (start_of x)))
      (frame_then 14 20 0 0 (frame_put 14 20 0 0 recorded_finish (omega arith) (omega arith) began i (pos (finish_of x)))
      (frame_put 14 20 0 0 work_left (omega arith) (omega arith) ended' i (pos m))))

-- one put after another
pub kept_steps : (S T U X Y : State) (i : ℕ) (x : Actual) (h s f m : ℕ) → T ≡ put_act S recorded_as i h → U ≡ put_act T recorded_start i s
    → X ≡ put_act U recorded_finish i f → Y ≡ put_act X work_left i m → h ≡ how_of x → s ≡ start_of x → f ≡ finish_of x → Y ≡ kept S i x m
unfolding kept
kept_steps S T U X Y i x h s f m t u v w eh es ef =
    let t' : T ≡ put_act S recorded_as i (how_of x) = t ∙ ap (put_act S recorded_as i) eh in
    let u' = u ∙ (λ z. put_act (t' z) recorded_start i (es z)) in
    let v' = v ∙ (λ z. put_act (u' z) recorded_finish i (ef z)) in
    w ∙ ap (λ (Z : State). put_act Z work_left i m) v'

-- ---- the two ways of a row
module _ (p : Plan) (i : ℕ) (S : State) where
  pub row_kept : (T : State) (x : Actual) (m : ℕ) → T ≡ kept S i x m → Ok x ≡ recorded p i
      → left_of p i ≡ Ok m → Row p i S T (Ok tt)
  row_kept T x m t e l = record {
    left =
        ap (λ (U : State). leaves (left_to (i + 1) U)) t ∙ ap leaves (kept_left S i x m)
        ∙ sym (ap (λ (w : Result ℕ ClockError). via refused w (λ q. leaves (put (left_to i S) i q))) l);
    here = λ d. ap (λ (U : State). Ok (actual_in U i)) t ∙ ap Ok (kept_here S i x m) ∙ e;
    others = λ j h. ap (λ (U : State). actual_in U j) t ∙ kept_others S i x m j h;
    frame = rw t (kept_frame S i x m);
  }

  pub row_refused : (k : ClockError) → left_of p i ≡ Err k → Row p i S S (Err k)
  row_refused k l = record {
    left = sym (ap (λ (w : Result ℕ ClockError). via refused w (λ q. leaves (put (left_to i S) i q))) l);
    here = λ d. let z : ◌≡◌ {A = ℕ} 0 1 = cc in absurd (omega arith);
    others = λ j h. refl;
    frame = frame_refl 14 20 0 0 S;
  }

-- ---- all rows
module _ (p : Plan) where
  pub passed_start : (S : State) → Passed p 0 S
  unfolding left_below
  passed_start S = record { left = ap leaves (sym (column_none (λ j. 0) S work_left)); recorded = λ j l. absurd (omega arith) }

  module _ (i : ℕ) (S T : State) (P : Passed p i S) (r : Result Unit ClockError) (R : Row p i S T r) where
    next : left_below p (i + 1) ≡ ended (left_to (i + 1) T) r
    unfolding left_below
    next =
        ap (left_below p) (add-one i)
        ∙ ap (λ (x : Pass (ℕ → ℕ)). elim x [ leaves f ↦ via refused (left_of p i) (λ m. leaves (put f i m)) | refused k ↦ refused k ]) P.left
        ∙ sym R.left

    pub passed_turn : r ≡ (Ok tt) → Passed p (i + 1) T
    passed_turn d = record {
      left = next ∙ ap (ended (left_to (i + 1) T)) d;
      recorded = λ j l.
          ⊎_elim (λ (e : j ≡ i). rw e (R.here d)) (λ (n : j ≢ i). ap Ok (R.others j n) ∙ P.recorded j (below j l n)) (eq_or_ne j i);
    }
      where
        below : (j : ℕ) → j < i + 1 → j ≢ i → j < i
        below j l n = omega (arith, n)

    stays : (k : ClockError) → r ≡ Err k → (n : ℕ) → i + 1 ≤ n → left_below p n ≡ refused k
    unfolding left_below
    stays k d zero l = absurd (omega arith)
    stays k d (suc n) l =
        ⊎_elim (λ (e : n ≡ i). ap (left_below p) (ap suc e ∙ sym (add-one i)) ∙ next ∙ ap (ended (left_to (i + 1) T)) d)
        (λ (h : n ≢ i).
        ap (λ (x : Pass (ℕ → ℕ)). elim x [ leaves f ↦ via refused (left_of p n) (λ m. leaves (put f n m)) | refused q ↦ refused q ])
        (stays k d n (above n l h))) (eq_or_ne n i)
      where
        above : (n : ℕ) → i + 1 ≤ suc n → n ≢ i → i + 1 ≤ n
        above n l h = omega (arith, h)

    -- whatever stands in the memory then
    pub passed_stop : (k : ClockError) → r ≡ Err k → i < p.activities → refused k ≡ left_below p p.activities
    passed_stop k d l = sym (stays k d p.activities (omega arith))

  pub passed_end : (i : ℕ) (S : State) → i ≡ p.activities → Passed p i S → (leaves (left_in p S) ≡ remaining p) × Recorded p S
  passed_end i S e P = let Q : Passed p p.activities S = rw e at P in (sym Q.left, Q.recorded)
