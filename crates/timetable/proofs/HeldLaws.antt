-- Without an as-late-as-possible mark no activity is moved: the early dates as the run ends are the forward pass's.
use Rattle.std.proofs.Math.Path.{◌≡◌, sym}
use Rattle.std.specs.Prelude.{refl, Bool, ◌&&◌, ◌||◌, not, length, get_or, Result, Ok, Err, Option, Some, None}
use Rattle.worktime.specs.declared.ClockError.{ClockError}
use Rattle.date.specs.declared.Date.{Date}
use Rattle.std.proofs.Common.{ap, ◌∙◌, arith}
use Rattle.std.proofs.Math.Bool.{true, false}
use mathlib.Core.List.{List, [], ◌∷◌, reverse}
use Prim.Native.Nat.{ℕ, zero, suc, ◌≤◌, ◌<◌}
use Rattle.std.proofs.Math.Dec.{ltb}
use Rattle.std.proofs.Math.IntN.{ℤ}
use Rattle.number.specs.Sign.{min_z}
use Rattle.worktime.specs.Walks.{next_start, previous_finish, between}
use Rattle.project.specs.declared.Constraint.{Constraint}
use Rattle.project.specs.declared.Constraint.TheVariants.{StartOnOrAfter, StartOnOrBefore, FinishOnOrAfter, FinishOnOrBefore, StartOn, FinishOn, MandatoryStart, MandatoryFinish, AsLateAsPossible}
use Rattle.network.specs.Times.{times_at, times_place}
use Rattle.network.specs.Placed.{times_reverse}
use Rattle.placing.specs.Placing.{via, midnight_of, completed, actual}
use Rattle.order.specs.Plan.{Plan}
use Rattle.order.specs.Ids.{summary}
use Rattle.order.specs.Checks.{checked, order}
use Rattle.order.proofs.LoopLaws.{fine_ordered}
use Rattle.passes.specs.Plan.{evening, own, tie, ties_out, recorded, begun}
use Rattle.passes.specs.Dates.{Early, Late, Freed, Pass, leaves, refused, put}
use Rattle.passes.specs.Forward.{forward_bound}
use Rattle.passes.specs.Backward.{finish}
use Rattle.passes.specs.Floats.{measured, is_late, target_of, gap, slack_by, not_begun, holds_late, held_move, free_by, freed, free_float}
use Rattle.passes.specs.Run.{free_pass}
use Rattle.timetable.specs.Fit.{Mild, FitBy, Marks, Fit}
use Rattle.timetable.specs.WalkLaws.{via_leaves}
use Rattle.timetable.proofs.StepLaws.{recorded_actual}
use Rattle.timetable.proofs.PassLaws.{Trace, through_trace}

mild_late : (c : Option Constraint) → Mild c → is_late c ≡ false
mild_late None m = refl
mild_late (Some (StartOnOrAfter x)) m = refl
mild_late (Some (StartOnOrBefore x)) m = refl
mild_late (Some (FinishOnOrAfter x)) m = refl
mild_late (Some (FinishOnOrBefore x)) m = refl
mild_late (Some (StartOn x)) m = refl
mild_late (Some (FinishOn x)) m = refl
mild_late (Some (MandatoryStart x)) m = refl
mild_late (Some (MandatoryFinish x)) m = refl
mild_late (Some AsLateAsPossible) m = absurd m

measured_leaves : {A : Type 0} (x : Result ℤ ClockError) (go : ℤ → Pass A) (y : A) → measured refused x go ≡ leaves y → (z : ℤ) × (go z ≡ leaves y)
measured_leaves (Ok z) go y e = (z, e)
measured_leaves (Err k) go y e = let z : ◌≡◌ {A = ℕ} 0 1 = cc in absurd (omega arith)

either_none : (a b : Bool) → a ≡ false → b ≡ false → (a || b) ≡ false
either_none a b e f = rw (e, f)

all_none : (s n l : Bool) → (s ≡ false → (n && l) ≡ false) → (not s && n && l) ≡ false
all_none true n l e = refl
all_none false true l e = e refl
all_none false false l e = refl

module _ (p : Plan) (d : Early) where
  -- ---- nothing is held late
  abbrev late : ℕ → Bool
  late i = is_late (p.activity i).constraint || is_late (p.activity i).secondary_constraint

  completed_begun : (i : ℕ) (x y : Result ℕ ClockError) (l : Bool) → (not_begun p d (via Err x (λ s. completed s y)) && l) ≡ false
  completed_begun i (Ok t) (Ok u) l = refl
  completed_begun i (Ok t) (Err k) l = refl
  completed_begun i (Err k) y l = refl

  not_late : (i : ℕ) (x y : Option Date) → FitBy x y (Marks p i)
      → (not_begun p d (actual (own p i) x y) && (late i)) ≡ false
  unfolding actual
  not_late i None None m =
      either_none (is_late (p.activity i).constraint) (is_late (p.activity i).secondary_constraint) (mild_late (p.activity i).constraint m.first)
      (mild_late (p.activity i).secondary_constraint m.second)
  not_late i (Some a) None m = absurd m
  not_late i None (Some b) m =
      completed_begun i (next_start (own p i) (midnight_of b)) (previous_finish (own p i) (evening (midnight_of b))) (late i)
  not_late i (Some a) (Some b) m =
      completed_begun i (next_start (own p i) (midnight_of a)) (previous_finish (own p i) (evening (midnight_of b))) (late i)

  pub none_held : Fit p → (i : ℕ) → i < p.activities → holds_late p d i ≡ false
  unfolding holds_late
  none_held fit i l =
      all_none (summary p i) (not_begun p d (recorded p i)) (late i)
      (λ z. rw (recorded_actual p i z) (not_late i (p.activity i).actual_start (p.activity i).actual_finish (fit i l z)))

  -- ---- one step of the free floats
  gap_leaves : (i t : ℕ) (go : ℤ → Pass Freed) (y : Freed) → gap p d i t go ≡ leaves y → (z : ℤ) × (go z ≡ leaves y)
  unfolding gap
  gap_leaves i t go y e = by (via_leaves (forward_bound p (tie p t) (begun p (recorded p i) (d.es i)) (d.ef i)) (λ b. measured refused (span b) go) y e)
    where
      span : ℕ → Result ℤ ClockError
      span b = between (own p i) b (target_of p (tie p t).kind (d.es (tie p t).to) (d.ef (tie p t).to))

      by : (b : ℕ) × (forward_bound p (tie p t) (begun p (recorded p i) (d.es i)) (d.ef i) ≡ Ok b) × (measured refused (span b) go ≡ leaves y) → (z : ℤ) × (go z ≡ leaves y)
      by (b, h, k) = measured_leaves (span b) go y k

  slack_leaves : (i : ℕ) (ts : List ℕ) (slack : ℤ) (go : ℤ → Pass Freed) (y : Freed) → slack_by p d i ts slack go ≡ leaves y → (z : ℤ) × (go z ≡ leaves y)
  unfolding slack_by
  slack_leaves i [] slack go y e = (slack, e)
  slack_leaves i (t ∷ ts) slack go y e =
      let r = gap_leaves i t (λ g. slack_by p d i ts (min_z slack g) go) y e in slack_leaves i ts (min_z slack r.0) go y r.1

  freed_keeps : (i n : ℕ) (free : ℕ → ℕ) (y : Freed) → holds_late p d i ≡ false → freed p d i n free ≡ leaves y → y.early ≡ d
  unfolding freed
  freed_keeps i n free y z e = by (holds_late p d i) z e
    where
      by : (b : Bool) → b ≡ false → elim (b && ltb 0 n) [ true ↦ held_move p d i n free | false ↦ leaves (record { early = d; free = put free i n }) ] ≡ leaves y → y.early ≡ d
      by true z e = let q : ◌≡◌ {A = ℕ} 0 1 = cc in absurd (omega arith)
      by false z e = let q : record { early = d; free = put free i n } ≡ y = cc in sym (ap (λ (x : Freed). x.early) q)

module _ (p : Plan) where
  float_keeps : (finish : ℕ) (l : Late) (x y : Freed) (i : ℕ) → holds_late p x.early i ≡ false → free_float p finish l x i ≡ leaves y → y.early ≡ x.early
  unfolding free_float
  float_keeps finish l x y i z e =
      by (measured_leaves (between (own p i) (x.early.ef i) finish) (λ slack. slack_by p x.early i (ties_out p i) slack last) y e)
    where
      ends : ℤ → ℤ → Pass Freed
      ends least total = freed p x.early i (free_by p x.early (recorded p i) least total) x.free

      last : ℤ → Pass Freed
      last least = measured refused (between (own p i) (x.early.ef i) (l.lf i)) (ends least)

      by : (slack : ℤ) × (slack_by p x.early i (ties_out p i) slack last ≡ leaves y) → y.early ≡ x.early
      by (slack, h) =
          let a = slack_leaves p x.early i (ties_out p i) slack last y h in
          let b = measured_leaves (between (own p i) (x.early.ef i) (l.lf i)) (ends a.0) y a.1 in
          freed_keeps p x.early i (free_by p x.early (recorded p i) a.0 b.0) x.free y z b.1

  -- ---- the pass
  module _ (fine : (checked p).number ≡ 0) (fit : Fit p) where
    back_in : (q : ℕ) → q < length (reverse (order p)) → get_or (reverse (order p)) q 0 < p.activities
    back_in q l =
        let i = get_or (reverse (order p)) q 0 in
        let o = fine_ordered p fine in
        let r = times_place i (order p) (omega (arith, times_at (reverse (order p)) q l, times_reverse i (order p))) in
        omega (arith, o.below r.0 (omega (arith, r.1, o.all)), r.2)

    pub free_keeps : (finish : ℕ) (l : Late) (x y : Freed) (t : Trace (free_float p finish l) (reverse (order p)) x y) → y.early ≡ x.early
    free_keeps finish l x y t = ap (λ (z : Freed). z.early) (sym t.ends) ∙ upto (length (reverse (order p))) (omega arith) ∙ ap (λ (z : Freed). z.early) t.starts
      where
        upto : (r : ℕ) → r ≤ length (reverse (order p)) → (t.at r).early ≡ (t.at 0).early
        upto zero b = refl
        upto (suc r) b =
            float_keeps finish l (t.at r) (t.at (suc r)) (get_or (reverse (order p)) r 0)
            (none_held p (t.at r).early fit (get_or (reverse (order p)) r 0) (back_in r b)) (t.steps r b)
            ∙ upto r (omega arith)

    pub free_pass_keeps : (d : Early) (l : Late) (x : Freed) → free_pass p d l ≡ leaves x → x.early ≡ d
    unfolding free_pass
    free_pass_keeps d l x e =
        let x₀ : Freed = record { early = d; free = λ i. 0 } in
        free_keeps (finish p d) l x₀ x (through_trace (free_float p (finish p d) l) (reverse (order p)) x₀ x e)
