-- The times that walks and placings answer are below 2 ^ 63, so that a cell of the memory holds them.
use Rattle.std.specs.Prelude.{◌≡◌, refl, Bool, ℕ, suc, ◌+◌, ◌^◌, ◌≤◌, ◌<◌, max, eqb, leb, ℤ, pos, negsuc, Result, Ok, Err, Option, Some, None}
use Rattle.worktime.specs.declared.ClockError.{ClockError}
use Rattle.date.specs.declared.Date.{Date}
use Rattle.std.proofs.Common.{sym, ap, ◌∙◌, ⊎_elim, arith}
use Rattle.std.proofs.Math.Bool.{true, false}
use Rattle.number.specs.Zed.{up, dn}
use Rattle.number.specs.ZedLaws.{minus_up, minus_dn}
use Rattle.number.specs.Order.{zero_or_pos}
use Rattle.worktime.specs.Worked.{count}
use Rattle.worktime.specs.Walks.{next_start, previous_finish, next_finish, previous_start, start_by, advance, retreat, shift, between}
use Rattle.worktime.specs.Count.{count_le}
use Rattle.worktime.proofs.Answers.{next_start_sound, previous_finish_sound, next_finish_sound, previous_start_next, start_by_sound}
use Rattle.worktime.proofs.Shift.{advance_sound, retreat_sound, shift_forward, shift_back}
use Rattle.worktime.proofs.Between.{between_sound, work_from_less}
use Rattle.worktime.specs.Relations.{retreat_before}
use Rattle.project.specs.declared.ActivityKind.{ActivityKind}
use Rattle.project.specs.declared.ActivityKind.TheVariants.{Task, StartMilestone, FinishMilestone}
use Rattle.placing.specs.declared.Actual.{Actual}
use Rattle.placing.specs.declared.Actual.TheVariants.{Unstarted, Begun, Completed}
use Rattle.placing.specs.Placing.{midnight_of, via, bounded, is_moment, completed, place_start, finish_of, start_for_finish, place_finish, latest_same, start_of, finish_for_start, finish_for_start_by, actual}
use Rattle.placing.proofs.PlacingSound.{clash, bounded_sound}
use Rattle.order.specs.Plan.{Plan}
use Rattle.order.specs.Ids.{summary}
use Rattle.passes.specs.Plan.{own, recorded, begun}

-- a walk's answer
abbrev Small : Result ℕ ClockError → Type 0
Small x = (u : ℕ) → x ≡ Ok u → u < 2 ^ 63

at_small : (t : ℕ) → t < 2 ^ 63 → Small (Ok t)
at_small t l u e = let same : t ≡ u = cc in omega arith

-- the two ways of a test, and what follows a walk
pick_small : (b : Bool) (x y : Result ℕ ClockError) → Small x → Small y → Small (elim b [ true ↦ x | false ↦ y ])
pick_small true x y p q = p
pick_small false x y p q = q

via_small : (x : Result ℕ ClockError) (go : ℕ → Result ℕ ClockError) → Small x → ((v : ℕ) → v < 2 ^ 63 → Small (go v)) → Small (via Err x go)
via_small (Ok v) go p q = q v (p v refl)
via_small (Err k) go p q = λ u e. clash (cc)

-- ---- the time itself, at most the span from the start
pub bounded_below : (origin t : ℕ) {u : ℕ} → origin < 2 ^ 43 → bounded origin t ≡ Ok u → u < 2 ^ 63
bounded_below origin t {u} l e = omega (arith, bounded_sound origin t u e)

module _ (w : ℕ → Bool) where
  -- ---- walks
  pub next_start_below : (t : ℕ) {u : ℕ} → next_start w t ≡ Ok u → u < 2 ^ 63
  next_start_below t e = omega (arith, (next_start_sound w e).2)

  pub previous_finish_below : (t : ℕ) {u : ℕ} → previous_finish w t ≡ Ok u → u < 2 ^ 63
  previous_finish_below t e = let s = previous_finish_sound w e in omega (arith, s.0.before, s.2)

  pub next_finish_below : (t : ℕ) {u : ℕ} → next_finish w t ≡ Ok u → u < 2 ^ 63
  next_finish_below t e = omega (arith, (next_finish_sound w e).2)

  pub previous_start_below : (t : ℕ) {u : ℕ} → previous_start w t ≡ Ok u → u < 2 ^ 63
  previous_start_below t e = next_start_below t (sym (previous_start_next w t) ∙ e)

  pub start_by_below : (t : ℕ) {u : ℕ} → start_by w t ≡ Ok u → u < 2 ^ 63
  start_by_below t {u} e = let s = start_by_sound w t u e in omega (arith, s.1, s.4)

  pub advance_below : (t n : ℕ) {u : ℕ} → t < 2 ^ 63 → advance w t n ≡ Ok u → u < 2 ^ 63
  advance_below t n {u} l e =
      let s = advance_sound w e in
      ⊎_elim (λ z. omega (arith, s.0.still z)) (λ p. omega (arith, (s.1 p).1)) (zero_or_pos n)

  pub retreat_below : (t n : ℕ) {u : ℕ} → t < 2 ^ 63 → retreat w t n ≡ Ok u → u < 2 ^ 63
  retreat_below t n {u} l e = omega (arith, retreat_before w (retreat_sound w e).0)

  pub shift_below : (t : ℕ) (lag : ℤ) {u : ℕ} → t < 2 ^ 63 → shift w t lag ≡ Ok u → u < 2 ^ 63
  shift_below t (pos n) l e = advance_below t n l (sym (shift_forward w t n) ∙ e)
  shift_below t (negsuc n) l e = retreat_below t (suc n) l (sym (shift_back w t n) ∙ e)

  -- the minutes between two times are no more than either
  pub between_below : (a b : ℕ) (z : ℤ) → between w a b ≡ Ok z → (up z ≤ b) × (dn z ≤ a)
  between_below a b z e =
      let d = (between_sound w a b z e).0 ∙ work_from_less w a b in (
        omega (arith, ap up d, minus_up (pos (count w b)) (pos (count w a)), count_le w b),
        omega (arith, ap dn d, minus_dn (pos (count w b)) (pos (count w a)), count_le w a),
      )

  -- ---- placings of early dates
  pub place_start_below : (kind : ActivityKind) (t : ℕ) {u : ℕ} → place_start w kind t ≡ Ok u → u < 2 ^ 63
  unfolding place_start
  place_start_below Task t e = next_start_below t e
  place_start_below StartMilestone t e = next_start_below t e
  place_start_below FinishMilestone t e = next_finish_below t e

  pub finish_of_below : (left t : ℕ) {u : ℕ} → t < 2 ^ 63 → finish_of w left t ≡ Ok u → u < 2 ^ 63
  finish_of_below left t l e = advance_below t left l e

  pub start_for_finish_below : (left t : ℕ) {u : ℕ} → t < 2 ^ 63 → start_for_finish w left t ≡ Ok u → u < 2 ^ 63
  unfolding start_for_finish
  start_for_finish_below left t {u} l e =
      pick_small (eqb left 0) (Ok t) (via Err (next_finish w t) (λ f. retreat w f left)) (at_small t l)
      (via_small (next_finish w t) (λ f. retreat w f left) (λ v d. next_finish_below t d) (λ v m x d. retreat_below v left m d)) u e

  -- ---- placings of late dates
  pub place_finish_below : (kind : ActivityKind) (left t : ℕ) {u : ℕ} → place_finish w kind left t ≡ Ok u → u < 2 ^ 63
  unfolding place_finish
  place_finish_below kind left t {u} e =
      via_small (previous_finish w t) _ (λ v d. previous_finish_below t d)
      (λ f m.
      pick_small (is_moment kind left) _ (Ok f)
      (via_small (next_start w f) _ (λ v d. next_start_below f d) (λ s n. pick_small (leb s t) (Ok s) (Ok f) (at_small s n) (at_small f m)))
      (at_small f m)) u e

  pub latest_same_below : (t : ℕ) {u : ℕ} → latest_same w t ≡ Ok u → u < 2 ^ 63
  latest_same_below t e = next_start_below t e

  pub start_of_below : (left t : ℕ) {u : ℕ} → t < 2 ^ 63 → start_of w left t ≡ Ok u → u < 2 ^ 63
  start_of_below left t l e = retreat_below t left l e

  pub finish_for_start_below : (left t : ℕ) {u : ℕ} → t < 2 ^ 63 → finish_for_start w left t ≡ Ok u → u < 2 ^ 63
  unfolding finish_for_start
  finish_for_start_below left t {u} l e =
      pick_small (eqb left 0) (Ok t) (via Err (previous_start w t) (λ s. advance w s left)) (at_small t l)
      (via_small (previous_start w t) (λ s. advance w s left) (λ v d. previous_start_below t d) (λ v m x d. advance_below v left m d)) u e

  pub finish_for_start_by_below : (left t : ℕ) {u : ℕ} → t < 2 ^ 63 → finish_for_start_by w left t ≡ Ok u → u < 2 ^ 63
  unfolding finish_for_start_by
  finish_for_start_by_below left t {u} l e =
      pick_small (eqb left 0) (Ok t) (via Err (start_by w t) (λ s. advance w s left)) (at_small t l)
      (via_small (start_by w t) (λ s. advance w s left) (λ v d. start_by_below t d) (λ v m x d. advance_below v left m d)) u e

-- ---- recorded work
pub record ActualBelow (x : Result Actual ClockError) : Type 0 where
  pub begun : (s : ℕ) → x ≡ Ok (Begun s) → s < 2 ^ 63
  pub completed : (s f : ℕ) → x ≡ Ok (Completed s f) → (s < 2 ^ 63) × (f < 2 ^ 63)

unstarted_below : ActualBelow (Ok Unstarted)
unstarted_below = record { begun = λ s e. clash (cc); completed = λ s f e. clash (cc) }

begun_of : (x : Result ℕ ClockError) → Small x → ActualBelow (via Err x (λ s. Ok (Begun s)))
begun_of (Ok u) h = record { begun = λ s e. h s (ap Ok (let same : u ≡ s = cc in same)); completed = λ s f e. clash (cc) }
begun_of (Err k) h = record { begun = λ s e. clash (cc); completed = λ s f e. clash (cc) }

finished : (s : ℕ) (y : Result ℕ ClockError) → s < 2 ^ 63 → Small y → ActualBelow (completed s y)
finished s (Ok f) l h = record {
  begun = λ r e. clash (cc);
  completed = λ r g e.
      let a : s ≡ r = cc in
      let b : max f s ≡ g = cc in
      (omega arith, omega (arith, h f refl));
}
finished s (Err k) l h = record { begun = λ r e. clash (cc); completed = λ r g e. clash (cc) }

completed_of : (x y : Result ℕ ClockError) → Small x → Small y → ActualBelow (via Err x (λ s. completed s y))
completed_of (Ok s) y h k = finished s y (h s refl) k
completed_of (Err k) y h g = record { begun = λ r e. clash (cc); completed = λ r f e. clash (cc) }

pub actual_below : (w : ℕ → Bool) (a b : Option Date) → ActualBelow (actual w a b)
unfolding actual
actual_below w None None = unstarted_below
actual_below w (Some d) None = begun_of (next_start w (midnight_of d)) (λ u e. next_start_below w (midnight_of d) e)
actual_below w None (Some e) =
    completed_of (next_start w (midnight_of e)) (previous_finish w (midnight_of e + 1440)) (λ u q. next_start_below w (midnight_of e) q)
    (λ u q. previous_finish_below w (midnight_of e + 1440) q)
actual_below w (Some d) (Some e) =
    completed_of (next_start w (midnight_of d)) (previous_finish w (midnight_of e + 1440)) (λ u q. next_start_below w (midnight_of d) q)
    (λ u q. previous_finish_below w (midnight_of e + 1440) q)

module _ (p : Plan) where
  pub recorded_below : (i : ℕ) → ActualBelow (recorded p i)
  unfolding recorded
  recorded_below i = by (summary p i) _ (actual_below (own p i) (p.activity i).actual_start (p.activity i).actual_finish)
    where
      by : (b : Bool) (x : Result Actual ClockError) → ActualBelow x → ActualBelow (elim b [ true ↦ Ok Unstarted | false ↦ x ])
      by true x h = unstarted_below
      by false x h = h

  -- the start from which links count
  pub begun_below : (x : Result Actual ClockError) (es : ℕ) → ActualBelow x → es < 2 ^ 63 → begun p x es < 2 ^ 63
  begun_below (Ok Unstarted) es h l = l
  begun_below (Ok (Begun s)) es h l = h.begun s refl
  begun_below (Ok (Completed s f)) es h l = (h.completed s f refl).0
  begun_below (Err k) es h l = l
