-- The minutes of the days before one, each by its weekday: as the code computes them from the sums, with that day, and in order.
use Rattle.std.specs.Prelude.{◌≡◌, refl, ◌⊎◌, List, ℕ, ◌+◌, ◌-◌, ◌*◌, ◌/◌, ◌^◌, ◌≤◌, ◌<◌, get_or}
use Rattle.std.proofs.Common.{ap, mul-le-mul_right}
use Rattle.std.proofs.Math.Logic.{⊎_elim}
use native.Mathlib.Omega.{arith}
use Rattle.std.proofs.Math.Nat.{mul-add}
use Rattle.number.specs.Order.{lt_or_le}
use Rattle.date.specs.Days.{weekday}
use Rattle.calendar.specs.declared.Period.{Period}
use Rattle.clock.specs.Regular.{Rising, Sums, regular}
use Rattle.clock.specs.RegularLaws.{between_regular}

pub regular_is : (ss : List ℕ) (d : ℕ) → regular ss d ≡ get_or ss 7 0 * ((d + 1) / 7) + get_or ss (weekday d) 0
unfolding regular
regular_is ss d = refl

module _ (ss : List ℕ) (up : Rising ss) where
  -- what is computed stays small
  pub sum_small : (d k : ℕ) → d < 4294967296 → k ≤ 7 → (get_or ss 7 0 * ((d + 1) / 7) < 2 ^ 43) × (get_or ss 7 0 * ((d + 1) / 7) + get_or ss k 0 < 2 ^ 43)
  sum_small d k l m =
      let weeks = mul-le-mul_right ((d + 1) / 7) up.1 in
      (omega (arith, weeks), omega (arith, weeks, up.0 k 7 m (omega arith), up.1))

  -- some weekday has minutes, where some are counted
  pub regular_some : (x : ℕ) → 0 < regular ss x → 0 < get_or ss 7 0
  regular_some x p =
      ⊎_elim (λ l. l) (λ l. absurd (omega (arith, regular_is ss x, mul-le-mul_right ((x + 1) / 7) l, up.0 (weekday x) 7 (omega arith) (omega arith)))) (lt_or_le 0 (get_or ss 7 0))

  -- with the day itself, and back to its beginning
  pub regular_end : get_or ss 0 0 ≡ 0 → (x : ℕ) → get_or ss 7 0 * ((x + 1) / 7) + get_or ss (weekday x + 1) 0 ≡ regular ss (x + 1)
  unfolding regular
  regular_end z x =
      ⊎_elim
      (λ (l : weekday x < 6).
      let f : (x + 1 + 1) / 7 ≡ (x + 1) / 7 = omega arith in
      let g : weekday (x + 1) ≡ weekday x + 1 = omega arith in
      rw (f, g) refl)
      (λ (l : 6 ≤ weekday x).
      let f : (x + 1 + 1) / 7 ≡ (x + 1) / 7 + 1 = omega arith in
      let g : weekday (x + 1) ≡ 0 = omega arith in
      let h : weekday x + 1 ≡ 7 = omega arith in
      rw (f, g, h, mul-add (get_or ss 7 0) ((x + 1) / 7) 1) (omega (arith, z))) (lt_or_le (weekday x) 6)

  pub regular_back : (x : ℕ) → get_or ss 7 0 * ((x + 1) / 7) + get_or ss (weekday x + 1) 0 - (get_or ss (weekday x + 1) 0 - get_or ss (weekday x) 0) ≡ regular ss x
  regular_back x = omega (arith, regular_is ss x, up.0 (weekday x) (weekday x + 1) (omega arith) (omega arith))

  pub regular_up : {x y : ℕ} → x ≤ y → regular ss x ≤ regular ss y
  regular_up {x} {y} l = omega (arith, between_regular ss x y up l)

  -- what the days from `next` up to day x have by their weekdays, where of a day that is over its own minutes are put back
  pub put_back : (next x out : ℕ) → next ≤ x + 1 → ((next ≤ x) × (out ≡ 0)) ⊎ ((x < next) × (regular ss x + out ≡ regular ss (x + 1)))
      → (regular ss next ≤ regular ss x + out) × (regular ss x + out - regular ss next ≡ regular ss x - regular ss next)
  put_back next x out l =
      ⊎_elim (λ w. let u = regular_up w.0 in (omega (arith, w.1), omega (arith, w.1)))
      (λ w. let e : regular ss next ≡ regular ss (x + 1) = ap (regular ss) (omega arith) in (omega (arith, e, w.1), omega (arith, e, w.1)))

  -- and what those after day x up to `next` have
  pub put_back_after : (next x out : ℕ) → x ≤ next → ((x < next) × (out ≡ 0)) ⊎ ((next ≤ x) × (regular ss x + out ≡ regular ss (x + 1)))
      → (regular ss (x + 1) ≤ regular ss next + out) × (regular ss next + out - regular ss (x + 1) ≡ regular ss next - regular ss (x + 1))
  put_back_after next x out l =
      ⊎_elim (λ w. let u = regular_up {x = x + 1} {y = next} (omega arith) in (omega (arith, w.1), omega (arith, w.1)))
      (λ w. let e : regular ss next ≡ regular ss x = ap (regular ss) (omega arith) in (omega (arith, e, w.1), omega (arith, e, w.1)))

module _ {week : List (List Period)} {ss : List ℕ} (sums : Sums week ss) where
  pub regular_le : {x y : ℕ} → x ≤ y → regular ss x ≤ regular ss y
  regular_le = regular_up ss sums.rising

  -- where less is counted it is earlier
  pub regular_lt_lt : {x y : ℕ} → regular ss x < regular ss y → x < y
  regular_lt_lt {x} {y} h = ⊎_elim (λ l. l) (λ l. omega (arith, regular_le l)) (lt_or_le x y)
