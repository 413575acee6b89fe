-- What is read off a row after puts, and what the definitions have of the rows.
use Rattle.std.specs.Prelude.{◌≡◌, refl, Bool, true, ◌≢◌, ℕ, ◌+◌, ◌≤◌, ◌<◌, ltb}
use Rattle.std.proofs.Common.{sym, ◌∙◌, ⊎_elim, arith, eq-eqb, ne_eqb, lt-ltb, le-ltb}
use Rattle.number.specs.Order.{lt_or_le}
use Rattle.number.specs.BitLaws.{mark_flag}
use Rattle.worktime.specs.Reads.{on_true, on_false}
use Rattle.memory.specs.State.{State}
use Rattle.memory.specs.Fields.{late_start, late_finish, early_start, early_finish, work_left, free_float, longest_path}
use Rattle.topology.specs.Frame.{outside, Frame}
use Rattle.topology.specs.FrameLaws.{outside_below}
use Rattle.order.specs.Plan.{Plan}
use Rattle.passes.specs.Dates.{put}
use Rattle.passes.specs.Plan.{origin}
use Rattle.dates.specs.ColumnLaws.{put_is, column_at, flags_at, flags_same}
use Rattle.dates.specs.KeptLaws.{early_kept, late_kept, free_kept}
use Rattle.results.specs.declared.Shown.{Shown}
use Rattle.results.specs.Results.{nothing}
use Rattle.results.specs.View.{ran_in, times_of, times_in, shown_at, shown_to, put_shown}

-- the row itself and the others
module _ (S : State) (i : ℕ) (x : Shown) where
  pub shown_here : shown_at (put_shown S i x) i ≡ x
  shown_here = rw (eq-eqb i i refl) (λ z. record {
    days = x.days;
    total = x.total;
    free = x.free;
    critical = mark_flag x.critical refl z;
    path = mark_flag x.path refl z;
    finish = x.finish;
    late = x.late;
  })

  pub shown_else : (j : ℕ) → j ≢ i → shown_at (put_shown S i x) j ≡ shown_at S j
  shown_else j h = rw (ne_eqb j i h)

module _ (n : ℕ) (S : State) where
  pub to_at_lem : (i : ℕ) → i < n → shown_to n S i ≡ shown_at S i
  to_at_lem i l = on_true (ltb i n) (shown_at S i) nothing (lt-ltb i n l)

  pub to_past : (i : ℕ) → n ≤ i → shown_to n S i ≡ nothing
  to_past i l = on_false (ltb i n) (shown_at S i) nothing (le-ltb i n l)

pub to_none : (S : State) → shown_to 0 S ≡ (λ (i : ℕ). nothing)
to_none S = λ z i. to_past 0 S i (omega arith) z

above : (n j : ℕ) → n ≤ j → j ≢ n → n + 1 ≤ j
above n j l h = omega (arith, h)

-- one row more
pub to_more : (n : ℕ) (S : State) (x : Shown) → shown_to (n + 1) (put_shown S n x) ≡ put (shown_to n S) n x
to_more n S x =
    put_is (shown_to n S) n x (shown_to (n + 1) T) (to_at_lem (n + 1) T n (omega arith) ∙ shown_here S n x)
    (λ j h.
    ⊎_elim (λ (l : j < n). to_at_lem (n + 1) T j (omega arith) ∙ shown_else S n x j h ∙ sym (to_at_lem n S j l))
    (λ (l : n ≤ j). to_past (n + 1) T j (above n j l h) ∙ sym (to_past n S j l)) (lt_or_le j n))
  where
    T : State
    T = put_shown S n x

-- a row in place
pub to_put : (n : ℕ) (S : State) (i : ℕ) (x : Shown) → i < n → shown_to n (put_shown S i x) ≡ put (shown_to n S) i x
to_put n S i x b =
    put_is (shown_to n S) i x (shown_to n T) (to_at_lem n T i b ∙ shown_here S i x)
    (λ j h.
    ⊎_elim (λ (l : j < n). to_at_lem n T j l ∙ shown_else S i x j h ∙ sym (to_at_lem n S j l)) (λ (l : n ≤ j). to_past n T j l ∙ sym (to_past n S j l)) (lt_or_le j n))
  where
    T : State
    T = put_shown S i x

-- what the passes leave of an activity is in its row
pub times_in_lem : (p : Plan) (S : State) (e : ℕ) (other : ℕ → Bool) (i : ℕ) → i < p.activities → times_of (ran_in p S e other) i ≡ times_in S i
times_in_lem p S e other i l = λ z. record {
  es = column_at n (λ i. origin p) early_start S i l z;
  ef = column_at n (λ i. origin p) early_finish S i l z;
  left = column_at n (λ i. 0) work_left S i l z;
  ls = column_at n (λ i. e) late_start S i l z;
  lf = column_at n (λ i. e) late_finish S i l z;
  free = column_at n (λ i. 0) free_float S i l z;
  path = flags_at n other longest_path S i l z;
}
  where
    n : ℕ
    n = p.activities

-- a frame of later fields keeps what the passes leave
module _ {lo hi : ℕ} {S T : State} (F : Frame lo hi 0 0 S T) where
  pub ran_kept : (p : Plan) (e : ℕ) (other : ℕ → Bool) → 17 ≤ lo → ran_in p T e other ≡ ran_in p S e other
  ran_kept p e other l = λ z. record {
    early = early_kept F p (kept early_start (omega arith)) (kept early_finish (omega arith)) (kept work_left (omega arith)) z;
    late = late_kept F p (kept late_start (omega arith)) (kept late_finish (omega arith)) e z;
    free = free_kept F p (kept free_float (omega arith)) z;
    path = flags_same p.activities other longest_path S T (F.acts longest_path (kept longest_path (omega arith))) z;
  }
    where
      kept : (f : ℕ) → f < 17 → outside lo hi f ≡ true
      kept f b = outside_below lo hi f (omega arith)
