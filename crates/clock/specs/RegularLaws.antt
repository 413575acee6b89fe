-- Days in a row without E records are counted by their weekdays: whole weeks by multiplication, and the days of a part of a week by their sum.
use Rattle.std.specs.Prelude.{◌≡◌, refl, get_or}
use Rattle.std.proofs.Common.{sym, ◌∙◌, mul-le-mul_left, mul-le-mul_right, add-one}
use Rattle.std.proofs.Math.Path.{ap}
use Rattle.std.proofs.Math.Logic.{⊎_elim}
use mathlib.Core.List.{List, []}
use Prim.Native.Nat.{ℕ, zero, suc, ◌+◌, ◌-◌, ◌*◌, ◌/◌, ◌≤◌, ◌<◌}
use native.Mathlib.Omega.{arith}
use Rattle.std.proofs.Math.Nat.{mul-add}
use Rattle.number.specs.Order.{lt_or_le}
use Rattle.date.specs.Days.{weekday}
use Rattle.calendar.specs.declared.Period.{Period}
use Rattle.calendar.specs.Hours.{worked, Ordered, rank}
use Rattle.calendar.specs.Records.{exception_day, exceptions_on, hours_on, Valid, FirstFrom}
use Rattle.calendar.specs.DayLaws.{on_rest, hours_week}
use Rattle.worktime.specs.Worked.{count}
use Rattle.clock.specs.On.{worked_on}
use Rattle.clock.specs.Days.{hand_rank}
use Rattle.clock.specs.Regular.{Rising, Sums, regular, days_work}

pub sums_are : (week : List (List Period)) (ss : List ℕ) → get_or ss 0 0 ≡ 0
    → ((k : ℕ) → k < 7 → get_or ss (k + 1) 0 ≡ get_or ss k 0 + rank (get_or week k []) 1440) → get_or ss 7 0 ≤ 10080 → Sums week ss
sums_are week ss none each high = record { none = none; each = each; rising = (rise, high) }
  where
    rise : (i j : ℕ) → i ≤ j → j ≤ 7 → get_or ss i 0 ≤ get_or ss j 0
    rise i zero l h = let e : get_or ss i 0 ≡ get_or ss 0 0 = ap (λ x. get_or ss x 0) (omega arith) in omega (arith, e)
    rise i (suc j) l h =
        let s : get_or ss (suc j) 0 ≡ get_or ss j 0 + rank (get_or week j []) 1440 = rw (add-one j) at (each j (omega arith)) in
        ⊎_elim (λ m. omega (arith, s, rise i j (omega arith) (omega arith)))
        (λ m. let e : get_or ss i 0 ≡ get_or ss (suc j) 0 = ap (λ x. get_or ss x 0) (omega arith) in omega (arith, e)) (lt_or_le i (suc j))

-- the work from day d up to day e, as a week's minutes times the weeks, the days of e's week more and those of d's less
module _ (ss : List ℕ) (d e : ℕ) (up : Rising ss) (l : d ≤ e) where
  weeks_between : get_or ss 7 0 * ((e + 1) / 7 - (d + 1) / 7) + get_or ss 7 0 * ((d + 1) / 7) ≡ get_or ss 7 0 * ((e + 1) / 7)
  weeks_between = let g : (e + 1) / 7 - (d + 1) / 7 + (d + 1) / 7 ≡ (e + 1) / 7 = omega arith in sym (mul-add (get_or ss 7 0) _ _) ∙ ap (λ x. get_or ss 7 0 * x) g

  pub between_small : get_or ss 7 0 * ((e + 1) / 7 - (d + 1) / 7) ≤ 10080 * ((e + 1) / 7 - (d + 1) / 7)
  between_small = mul-le-mul_right ((e + 1) / 7 - (d + 1) / 7) up.1

  pub between_low : get_or ss (weekday d) 0 ≤ get_or ss 7 0 * ((e + 1) / 7 - (d + 1) / 7) + get_or ss (weekday e) 0
  between_low =
      ⊎_elim (λ m. omega (arith, up.0 (weekday d) 7 (omega arith) (omega arith), mul-le-mul_left (get_or ss 7 0) m))
      (λ m. omega (arith, up.0 (weekday d) (weekday e) (omega arith) (omega arith))) (lt_or_le 0 ((e + 1) / 7 - (d + 1) / 7))

  pub between_regular : regular ss d + (get_or ss 7 0 * ((e + 1) / 7 - (d + 1) / 7) + get_or ss (weekday e) 0 - get_or ss (weekday d) 0) ≡ regular ss e
  unfolding regular
  between_regular = omega (arith, weeks_between, between_low)

module _ {week : List (List Period)} {ss : List ℕ} (sums : Sums week ss) where
  -- one day more
  pub regular_step : (d : ℕ) → regular ss (d + 1) ≡ regular ss d + rank (get_or week (weekday d) []) 1440
  unfolding regular
  regular_step d =
      ⊎_elim
      (λ l.
      let f : (d + 1 + 1) / 7 ≡ (d + 1) / 7 = omega arith in
      let g : weekday (d + 1) ≡ weekday d + 1 = omega arith in
      rw (f, g) (omega (arith, sums.each (weekday d) (omega arith))))
      (λ l.
      let f : (d + 1 + 1) / 7 ≡ (d + 1) / 7 + 1 = omega arith in
      let g : weekday (d + 1) ≡ 0 = omega arith in
      let h : weekday d ≡ 6 = omega arith in
      rw (f, g, h, mul-add (get_or ss 7 0) ((d + 1) / 7) 1) (omega (arith, sums.none, sums.each 6 (omega arith)))) (lt_or_le (weekday d) 6)

  -- days by the hours of each, where those are the week's
  pub days_regular : (h : ℕ → List Period) (d m : ℕ) → ((x : ℕ) → d ≤ x → x < d + m → h x ≡ get_or week (weekday x) []) → regular ss d + days_work h d m ≡ regular ss (d + m)
  unfolding days_work
  days_regular h d zero f = let e : d + 0 ≡ d = omega arith in rw e (omega arith)
  days_regular h d (suc m) f =
      let e : d + suc m ≡ d + m + 1 = omega arith in
      let r : rank (h (d + m)) 1440 ≡ rank (get_or week (weekday (d + m)) []) 1440 = ap (λ (ps : List Period). rank ps 1440) (f (d + m) (omega arith) (omega arith)) in
      rw e (omega (arith, r, regular_step (d + m), days_regular h d m (λ x a b. f x a (omega arith))))

-- days by the hours of each have what is counted
pub count_days : (h : ℕ → List Period) (d : ℕ) → ((x : ℕ) → Ordered 0 (h x)) → (m : ℕ) → count (worked h) (d * 1440) + days_work h d m ≡ count (worked h) ((d + m) * 1440)
unfolding days_work
count_days h d o zero = let e : (d + 0) * 1440 ≡ d * 1440 = omega arith in rw e (omega arith)
count_days h d o (suc m) =
    let i : ℕ = d + m in
    let e : (d + suc m) * 1440 ≡ i * 1440 + 1440 = omega arith in
    rw e (omega (arith, hand_rank h i (o i) _ refl 1440 _ (omega arith) refl, count_days h d o m))

-- the count of work over m days without E records, from day d up to day e
pub count_regular : {week : List (List Period)} {ss : List ℕ} → Sums week ss → {s : List ℕ} {at n : ℕ} → Valid week s at n → (d m e : ℕ) → d + m ≡ e
    → ((j : ℕ) → d ≤ j → j < e → exceptions_on s at j n ≡ [])
    → count (worked_on week s at n) (d * 1440) + regular ss e ≡ count (worked_on week s at n) (e * 1440) + regular ss d
count_regular {week} sums {s} {at} {n} valid d m e p f =
    let h : ℕ → List Period = hours_on week s at n in
    let a = rw p at (count_days h d valid.ordered m) in
    let b = rw p at (days_regular sums h d m (λ x y z. hours_week week s at n x (f x y (omega arith)))) in
    omega (arith, a, b)

-- ---- days between which no E record comes: record j is first from day d on, and from day e on
module _ {s : List ℕ} {at n j d e : ℕ} (from : FirstFrom s at n d j) (to : FirstFrom s at n e j) (x : ℕ) (low : d ≤ x) where
  pub none_between : x < e → exceptions_on s at x n ≡ []
  unfolding exceptions_on
  none_between high =
      let other : (i : ℕ) → i < n → exception_day s at i ≡ x → ⊥ =
      λ i l z. ⊎_elim (λ q. omega (arith, from.below i q)) (λ q. omega (arith, to.above i q l)) (lt_or_le i j) in
      let o : 0 + n ≡ n = omega arith in
      rw o at (on_rest s at x 0 n (λ i _ l. other i (omega arith)))

  pub first_between : x ≤ e → FirstFrom s at n x j
  first_between high = record {
    within = from.within;
    below = λ i l. omega (arith, from.below i l);
    above = λ i l k. omega (arith, to.above i l k);
  }

-- ---- the days before the next E record
module _ (s : List ℕ) (at n i j : ℕ) (sorted : (x y : ℕ) → x ≤ y → y < n → exception_day s at x ≤ exception_day s at y) (first : FirstFrom s at n i j) (r : ℕ) where
  pub next_own_is : i ≤ r → (j < n → r ≤ exception_day s at j) → FirstFrom s at n r j
  next_own_is a c = record {
    within = first.within;
    below = λ x y. omega (arith, first.below x y);
    above = λ x y z. omega (arith, c (omega arith), sorted j x y z);
  }

-- ---- the days after the last E record before day e
module _ (s : List ℕ) (at n e j : ℕ) (sorted : (x y : ℕ) → x ≤ y → y < n → exception_day s at x ≤ exception_day s at y) (first : FirstFrom s at n e j) (r : ℕ) where
  pub after_own_is : r ≤ e → (0 < j → exception_day s at (j - 1) < r) → FirstFrom s at n r j
  after_own_is l c = record {
    within = first.within;
    below = λ x y. omega (arith, c (omega arith), sorted x (j - 1) (omega arith) (omega (arith, first.within)));
    above = λ x y z. omega (arith, first.above x y z);
  }
