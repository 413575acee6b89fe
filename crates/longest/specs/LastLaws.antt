-- The marks of what finishes the project, one activity after the other.
use Rattle.std.specs.Prelude.{◌≡◌, refl, Bool, true, false, ◌&&◌, ℕ, ◌+◌, ◌<◌, eqb, ltb, pos, Ok}
use Rattle.std.proofs.Common.{sym, ap, ◌∙◌, arith}
use Rattle.std.proofs.Math.Bool.{not}
use Rattle.number.specs.Bit.{bit}
use Rattle.number.specs.BitLaws.{mark_flag}
use Rattle.memory.specs.State.{State, put_act}
use Rattle.memory.specs.Fields.{is_summary, early_finish, longest_path}
use Rattle.topology.specs.Frame.{Frame}
use Rattle.topology.specs.FrameLaws.{frame_then, frame_put}
use Rattle.placing.specs.declared.Actual.{Actual}
use Rattle.order.specs.Plan.{Plan}
use Rattle.order.specs.Ids.{summary}
use Rattle.passes.specs.Plan.{origin, recorded}
use Rattle.passes.specs.Dates.{Early, put}
use Rattle.passes.specs.Floats.{is_completed, last_ones}
use Rattle.dates.specs.Columns.{flags, early_in}
use Rattle.dates.specs.ColumnLaws.{put_is, column_at, flags_past, flags_more}
use Rattle.dates.specs.Standing.{actual_in, Standing, Recorded}
use Rattle.dates.specs.KeptLaws.{early_kept}

-- ---- whether activity i is one of them
module _ (p : Plan) (S : State) (t : ℕ) (W : Standing p t S) (R : Recorded p S) (finish i : ℕ) (l : i < p.activities) where
  last_by : (b c e : Bool) → summary p i ≡ b → is_completed p (recorded p i) ≡ c → eqb ((early_in p S).ef i) finish ≡ e
      → last_ones p (early_in p S) finish i ≡ (not b && not c && e)
  unfolding last_ones
  last_by b c e f g h = λ z. not (f z) && not (g z) && h z

  -- by the summary's mark, what is recorded, and the early finish, as they are read
  told : {m : Bool} → m ≡ ltb 0 (S.act is_summary i) → summary p i ≡ m
  told e = sym (e ∙ mark_flag (summary p i) (W.marks i l))

  pub last_summary : {m : Bool} → m ≡ ltb 0 (S.act is_summary i) → m ≡ true → last_ones p (early_in p S) finish i ≡ false
  last_summary e h = last_by true (is_completed p (recorded p i)) (eqb ((early_in p S).ef i) finish) (told e ∙ h) refl refl

  module _ {m : Bool} (e : m ≡ ltb 0 (S.act is_summary i)) (none : m ≡ false) (a : Actual) (f : a ≡ actual_in S i) where
    plain : summary p i ≡ false
    plain = told e ∙ none

    same : is_completed p (recorded p i) ≡ is_completed p (Ok a)
    same = ap (is_completed p) (sym (ap Ok f ∙ R i l))

    pub last_completed : is_completed p (Ok a) ≡ true → last_ones p (early_in p S) finish i ≡ false
    last_completed c = last_by false true (eqb ((early_in p S).ef i) finish) plain (same ∙ c) refl

    pub last_finish : is_completed p (Ok a) ≡ false → (v : ℕ) → v ≡ S.act early_finish i → last_ones p (early_in p S) finish i ≡ eqb v finish
    last_finish c v g =
        last_by false false (eqb v finish) plain (same ∙ c)
        (ap (λ (x : ℕ). eqb x finish) (column_at p.activities (λ j. origin p) early_finish S i l ∙ sym g))

-- ---- the marks of the first n activities are put
put_own : {A : Type 0} (f : ℕ → A) (i : ℕ) (v : A) → v ≡ f i → put f i v ≡ f
put_own f i v e = sym (put_is f i v f (sym e) (λ j h. refl))

module _ (other : ℕ → Bool) where
  pub marks_none : (S : State) → flags 0 other S longest_path ≡ other
  marks_none S = λ z i. flags_past 0 other longest_path S i (omega arith) z

  pub marks_more : (S : State) (n : ℕ) (b : Bool) → flags n other S longest_path ≡ other → b ≡ other n
      → flags (n + 1) other (put_act S longest_path n (bit b)) longest_path ≡ other
  marks_more S n b e f = flags_more n other longest_path S b ∙ ap (λ (g : ℕ → Bool). put g n b) e ∙ put_own other n b f

-- the mark of activity n is put
module _ (p : Plan) (S₀ S T : State) (F : Frame 16 17 0 0 S₀ S) (finish n v : ℕ) (b : Bool) (e : T ≡ put_act S longest_path n v) (f : v ≡ bit b) where
  pub last_turn : flags n (last_ones p (early_in p S₀) finish) S longest_path ≡ last_ones p (early_in p S₀) finish
      → b ≡ last_ones p (early_in p S) finish n
      → flags (n + 1) (last_ones p (early_in p S₀) finish) T longest_path ≡ last_ones p (early_in p S₀) finish
  last_turn g h =
      let other = last_ones p (early_in p S₀) finish in
      ap (λ (U : State). flags (n + 1) other U longest_path) (e ∙ ap (put_act S longest_path n) f)
      ∙ marks_more other S n b g (h ∙ ap (λ (d : Early). last_ones p d finish n) (early_kept F p refl refl refl))

pub frame_mark : {S₀ S T : State} → Frame 16 17 0 0 S₀ S → (n v : ℕ) → T ≡ put_act S longest_path n v → Frame 16 17 0 0 S₀ T
frame_mark {S₀} {S} F n v e = rw e (frame_then 16 17 0 0 F (frame_put 16 17 0 0 longest_path (omega arith) (omega arith) S n (pos v)))
