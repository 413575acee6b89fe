-- The rows of the memory give what the definition shows, one after the other.
use Rattle.std.specs.Prelude.{◌≡◌, Bool, ltb, ℤ, Result, Ok, Err}
use Rattle.worktime.specs.declared.ClockError.{ClockError}
use Rattle.std.proofs.Common.{sym, ◌∙◌, ⊎_elim, add-one, arith}
use Rattle.std.proofs.Math.Path.{ap}
use Prim.Native.Nat.{ℕ, zero, suc, ◌+◌, ◌≤◌, ◌<◌}
use Rattle.number.specs.Order.{lt_or_le}
use Rattle.memory.specs.State.{State, put_act_z}
use Rattle.memory.specs.declared.Tables.{Tables}
use Rattle.memory.specs.Seen.{state, SameSlice}
use Rattle.memory.specs.Fields.{late_start, late_finish, early_start, early_finish, work_left, free_float, longest_path, recorded_as, recorded_start, recorded_finish, shown_start, shown_finish, shown_late_start, shown_late_finish, total_float, shown_free, is_critical, is_longest, greatest_finish, greatest_late}
use Rattle.topology.specs.Frame.{Frame}
use Rattle.topology.specs.FrameLaws.{outside_below, frame_refl, frame_put, frame_then}
use Rattle.project.specs.declared.ActivityKind.{ActivityKind}
use Rattle.project.specs.declared.Project.{Project}
use Rattle.placing.specs.declared.Actual.{Actual}
use Rattle.order.specs.Plan.{Plan, plan_of, plan_in}
use Rattle.passes.specs.Plan.{own, kind_of, recorded}
use Rattle.passes.specs.Dates.{Pass, leaves, refused}
use Rattle.passes.specs.Floats.{day_of}
use Rattle.passes.specs.Run.{Ran}
use Rattle.calendars.specs.declared.plan_sheet.PlanSheet.{PlanSheet}
use Rattle.calendars.specs.Calendars.{Lengths}
use Rattle.dates.specs.Columns.{ended}
use Rattle.dates.specs.Standing.{Ready, Recorded}
use Rattle.dates.specs.FineLaws.{checked_fine}
use Rattle.dates.specs.KeptLaws.{recorded_kept}
use Rattle.results.specs.declared.Shown.{Shown}
use Rattle.results.specs.declared.row.ShownRow.{ShownRow}
use Rattle.results.specs.declared.Times.{Times}
use Rattle.results.specs.Results.{shown, shown_below}
use Rattle.results.specs.View.{ran_in, times_in, shown_to, put_shown}
use Rattle.results.specs.ViewLaws.{times_in_lem, to_none, to_more}
use Rattle.results.specs.Showing.{showing, shown_from}
use Rattle.results.proofs.ShowingLaws.{shown_is}
use Rattle.results.specs.Row.{ToShow, row_shown}
use Rattle.results.specs.RowLaws.{shown_next}

-- ---- what is lent
module _ {plan : PlanSheet} {tables : Tables} where
  pub to_show : Ready plan tables → Lengths (plan_in plan.sheet) plan.calendars.now → Recorded (plan_in plan.sheet) (state tables) → ToShow plan tables
  unfolding plan_of
  to_show R L D = record {
    activities = R.activities;
    links = R.links;
    days = L;
    named = λ i b. ((checked_fine (plan_in plan.sheet) R.fine).activities i b).calendar;
    recorded = D;
  }

  -- it stays where only later fields change
  pub to_show_kept : {lo hi : ℕ} {tables' : Tables} → 20 ≤ lo → Frame lo hi 0 0 (state tables) (state tables')
      → SameSlice tables tables' → ToShow plan tables → ToShow plan tables'
  to_show_kept {lo} {hi} {tables'} l F e W = record {
    activities = e.activities ∙ W.activities;
    links = e.links ∙ W.links;
    days = W.days;
    named = W.named;
    recorded =
        recorded_kept F (plan_in plan.sheet) (outside_below lo hi recorded_as (omega arith)) (outside_below lo hi recorded_start (omega arith))
        (outside_below lo hi recorded_finish (omega arith)) W.recorded;
  }

-- ---- what a row shows
module _ (p : Plan) where
  pub row_shown_lem : (S : State) (e : ℕ) (other : ℕ → Bool) (i : ℕ) → i < p.activities → row_shown p S i ≡ shown p (ran_in p S e other) i
  unfolding row_shown
  row_shown_lem S e other i l =
      ap (shown_from p p.project (kind_of p i) (day_of p i) (own p i) (recorded p i)) (sym (times_in_lem p S e other i l)) ∙ shown_is p (ran_in p S e other) i

  pub row_kept : {lo hi : ℕ} {S T : State} → 17 ≤ lo → Frame lo hi 0 0 S T → (i : ℕ) → row_shown p T i ≡ row_shown p S i
  unfolding row_shown
  row_kept {lo} {hi} {S} {T} l F i = ap (shown_from p p.project (kind_of p i) (day_of p i) (own p i) (recorded p i)) times
    where
      kept : (f : ℕ) → f < 17 → T.act f i ≡ S.act f i
      kept f b = ap (λ (c : ℕ → ℕ). c i) (F.acts f (outside_below lo hi f (omega arith)))

      times : times_in T i ≡ times_in S i
      times = λ z. record {
        es = kept early_start (omega arith) z;
        ef = kept early_finish (omega arith) z;
        left = kept work_left (omega arith) z;
        ls = kept late_start (omega arith) z;
        lf = kept late_finish (omega arith) z;
        free = kept free_float (omega arith) z;
        path = ap (ltb 0) (kept longest_path (omega arith)) z;
      }

pub next_done : (S : State) (i : ℕ) (r : Result ShownRow ClockError) (x : ShownRow) (T : State) → r ≡ Ok x → T ≡ put_shown S i x.shown → ended (shown_to (i + 1) T) (Ok tt) ≡ shown_next (showing r) (shown_to i S) i
next_done S i r x T e f = rw (e, f) (ap leaves (to_more i S x.shown))

pub next_refused : (S : State) (i : ℕ) (r : Result ShownRow ClockError) (k : ClockError) (T : State) → r ≡ Err k → ended (shown_to (i + 1) T) (Err k) ≡ shown_next (showing r) (shown_to i S) i
next_refused S i r k T e = rw e

pub shown_frame : (S : State) (i : ℕ) (x : Shown) → Frame 20 30 0 0 S (put_shown S i x)
shown_frame S i x =
    let by : (g : ℕ) → 20 ≤ g → g < 30 → (T : State) (z : ℤ) → Frame 20 30 0 0 S T → Frame 20 30 0 0 S (put_act_z T g i z) = λ g a b T z F. frame_then 20 30 0 0 F (frame_put 20 30 0 0 g a b T i z) in
    by greatest_late (omega arith) (omega arith) _ _
    (by greatest_finish (omega arith) (omega arith) _ _
    (by is_longest (omega arith) (omega arith) _ _
    (by is_critical (omega arith) (omega arith) _ _
    (by shown_free (omega arith) (omega arith) _ _
    (by total_float (omega arith) (omega arith) _ _
    (by shown_late_finish (omega arith) (omega arith) _ _
    (by shown_late_start (omega arith) (omega arith) _ _
    (by shown_finish (omega arith) (omega arith) _ _ (frame_put 20 30 0 0 shown_start (omega arith) (omega arith) S i _)))))))))

-- a refusal stays one, whatever comes after
below_refused : (p : Plan) (r : Ran) (k : ClockError) (n : ℕ) → shown_below p r n ≡ refused k → (m : ℕ) → n ≤ m → shown_below p r m ≡ refused k
unfolding shown_below
below_refused p r k n e zero l = let z : n ≡ 0 = omega arith in rw z at e
below_refused p r k n e (suc m) l =
    ⊎_elim (λ (b : m < n). let z : n ≡ suc m = omega arith in rw z at e) (λ (b : n ≤ m). rw (below_refused p r k n e m b)) (lt_or_le m n)

module _ (p : Plan) (r : Ran) where
  -- the first n are shown, and f is what is shown of them
  abbrev pub ShownSo : (ℕ → Shown) → ℕ → Type 0
  ShownSo f n = shown_below p r n ≡ leaves f

  pub so_none : (S : State) → ShownSo (shown_to 0 S) 0
  unfolding shown_below
  so_none S = ap leaves (sym (to_none S))

  module _ (f : ℕ → Shown) (n : ℕ) (W : ShownSo f n) where
    on : shown_below p r (n + 1) ≡ shown_next (shown p r n) f n
    unfolding shown_below
    on = rw (add-one n, W)

    pub so_more : (g : ℕ → Shown) (a : Result Unit ClockError) → ended g a ≡ shown_next (shown p r n) f n → a ≡ (Ok tt) → ShownSo g (n + 1)
    so_more g a e d = on ∙ sym e ∙ ap (ended g) d

    pub so_stop : (g h : ℕ → Shown) (k : ClockError) (m : ℕ) → ended g (Err k) ≡ shown_next (shown p r n) f n → n + 1 ≤ m → ended h (Err k) ≡ shown_below p r m
    so_stop g h k m e l = sym (below_refused p r k (n + 1) (on ∙ sym e) m l)

-- ---- the parts of a row in hand
pub row_is : (p : Plan) (S : State) (i : ℕ) (project : Project) (kind : ActivityKind) (day_length : ℕ) (w : ℕ → Bool) (a : Result Actual ClockError) (t : Times)
    → project ≡ p.project → kind ≡ kind_of p i → day_length ≡ day_of p i → w ≡ own p i → a ≡ recorded p i → t ≡ times_in S i
    → shown_from p project kind day_length w a t ≡ row_shown p S i
unfolding row_shown
row_is p S i project kind day_length w a t d e f g h j = λ z. shown_from p (d z) (e z) (f z) (g z) (h z) (j z)

-- ---- the loop over the activities
pub record Shows (p : Plan) (S₀ S : State) (i : ℕ) : Type 0 where
  pub frame : Frame 20 30 0 0 S₀ S
  pub so : (e : ℕ) (other : ℕ → Bool) → ShownSo p (ran_in p S₀ e other) (shown_to i S) i

module _ (p : Plan) (S₀ : State) where
  pub shows_start : Shows p S₀ S₀ 0
  shows_start = record { frame = frame_refl 20 30 0 0 S₀; so = λ e other. so_none p (ran_in p S₀ e other) S₀ }

  module _ (S T : State) (i : ℕ) (W : Shows p S₀ S i) (b : i < p.activities) (r : Result Unit ClockError)
      (h : ended (shown_to (i + 1) T) r ≡ shown_next (row_shown p S i) (shown_to i S) i) where
    by_ran : (e : ℕ) (other : ℕ → Bool) → ended (shown_to (i + 1) T) r ≡ shown_next (shown p (ran_in p S₀ e other) i) (shown_to i S) i
    by_ran e other =
        h ∙ ap (λ (x : Pass Shown). shown_next x (shown_to i S) i) (row_kept p (omega arith) W.frame i ∙ row_shown_lem p S₀ e other i b)

    pub shows_turn : Frame 20 30 0 0 S T → r ≡ (Ok tt) → Shows p S₀ T (i + 1)
    shows_turn F d = record {
      frame = frame_then 20 30 0 0 W.frame F;
      so = λ e other. so_more p (ran_in p S₀ e other) (shown_to i S) i (W.so e other) (shown_to (i + 1) T) r (by_ran e other) d;
    }

    pub shows_stop : (k : ClockError) → r ≡ Err k → (f : ℕ → Shown) (e : ℕ) (other : ℕ → Bool) → ended f (Err k) ≡ shown_below p (ran_in p S₀ e other) p.activities
    shows_stop k d f e other =
        so_stop p (ran_in p S₀ e other) (shown_to i S) i (W.so e other) (shown_to (i + 1) T) f k p.activities
        (ap (ended (shown_to (i + 1) T)) (sym d) ∙ by_ran e other) (omega arith)

  pub shows_end : (S : State) (i : ℕ) → Shows p S₀ S i → i ≡ p.activities → (e : ℕ) (other : ℕ → Bool) → ended (shown_to p.activities S) (Ok tt) ≡ shown_below p (ran_in p S₀ e other) p.activities
  shows_end S i W d e other = sym (rw d at (W.so e other))
