-- A day's year, month and day of the month by the arithmetic on years that begin in March, counted from the year -5,878,000, a whole number of eras before year 0.
use Rattle.std.specs.Prelude.{◌≡◌, Bool, true, false, ℕ, suc, ◌+◌, ◌-◌, ◌*◌, ◌/◌, ◌%◌, ◌≤◌, ◌<◌, eqb, ℤ, pos, negsuc, nat_abs, ◌+ℤ◌, get_or}
use Rattle.std.proofs.Math.Path.{refl, ap}
use Rattle.std.proofs.Common.{sym, ◌∙◌, add-one, eq-eqb, ne_eqb}
use Rattle.std.proofs.Math.Logic.{⊎_elim}
use native.Mathlib.Omega.{arith}
use Rattle.number.specs.Order.{eq_or_ne}
use Rattle.number.specs.Zed.{up, dn}
use Rattle.number.specs.ZedLaws.{same, add_is}
use Rattle.date.specs.Gregorian.{leap, lengths, sum, month_length, days_before, years_up, years_down, new_year, IsDate}
use Rattle.number.specs.Bit.{bit}
use Rattle.date.specs.YearLaws.{divides, leap_bit, round_4, round_100, round_400, year_length_lem, years_up_lem, years_down_lem, epoch, new_year_up, new_year_dn}
use Rattle.date.specs.March.{march, InYear, Shifted, days_from_march}
use Rattle.date.specs.MarchLaws.{hundreds_fours}
use Rattle.date.specs.MonthLaws.{spring_before, spring_length, month_begun, month_ends}

-- ---- 1 January and 1 March
pub new_march : (n : ℕ) → years_up n + bit (leap n) ≡ march n + 1
new_march n =
    sums (years_up n) (365 * n) (bit (leap n)) (divides 4 n) (divides 100 n) (divides 400 n) ((n + 3) / 4) ((n + 99) / 100) ((n + 399) / 400) (n / 4) (n / 100) (n / 400) (years_up_lem n) (leap_bit n) (round_4 n) (round_100 n)
    (round_400 n) (hundreds_fours n)
  where
    sums : (u y b d4 d100 d400 c4 c100 c400 q4 q100 q400 : ℕ) → u + c100 ≡ y + c4 + c400 → b + d100 ≡ d4 + d400 → c4 + d4 ≡ q4 + 1 → c100 + d100 ≡ q100 + 1 → c400 + d400 ≡ q400 + 1 → q100 ≤ q4
        → u + b ≡ y + q4 - q100 + q400 + 1
    sums u y b d4 d100 d400 c4 c100 c400 q4 q100 q400 hu hb h4 h100 h400 l = omega arith

pub next_new_year : (n : ℕ) → years_up (n + 1) ≡ march n + 366
unfolding years_up
next_new_year n = rw (add-one n) (omega (arith, new_march n, year_length_lem (pos n)))

pub next_march : (n : ℕ) → march (n + 1) ≡ march n + 365 + bit (leap (n + 1))
next_march n = omega (arith, new_march (n + 1), next_new_year n)

-- ---- years counted from -5,878,000
-- a year is a leap year where the one so many eras on is
module _ (k : ℕ) where
  same_test : (a b : ℕ) → (a % k ≡ 0 → b % k ≡ 0) → (b % k ≡ 0 → a % k ≡ 0) → eqb (a % k) 0 ≡ eqb (b % k) 0
  same_test a b f g = ⊎_elim (λ e. eq-eqb _ _ e ∙ sym (eq-eqb _ _ (f e))) (λ n. ne_eqb _ _ n ∙ sym (ne_eqb _ _ (λ e. n (g e)))) (eq_or_ne (a % k) 0)

same_leap : (a b : ℕ) → eqb (a % 4) 0 ≡ eqb (b % 4) 0 → eqb (a % 100) 0 ≡ eqb (b % 100) 0 → eqb (a % 400) 0 ≡ eqb (b % 400) 0 → leap a ≡ leap b
unfolding leap
same_leap a b p q r = rw (p, q, r)

pub leap_shifted : (year : ℤ) (n : ℕ) → Shifted year n → leap (nat_abs year) ≡ leap n
leap_shifted (pos a) n h =
    same_leap a n (same_test 4 a n (λ x. omega arith) (λ x. omega arith)) (same_test 100 a n (λ x. omega arith) (λ x. omega arith)) (same_test 400 a n (λ x. omega arith) (λ x. omega arith))
leap_shifted (negsuc a) n h =
    same_leap (suc a) n (same_test 4 (suc a) n (λ x. omega arith) (λ x. omega arith)) (same_test 100 (suc a) n (λ x. omega arith) (λ x. omega arith)) (same_test 400 (suc a) n (λ x. omega arith) (λ x. omega arith))

-- 14,695 eras of 146,097 days
pub new_year_shifted : (year : ℤ) (n : ℕ) → Shifted year n → years_up (up year) + 2146895415 ≡ years_up n + years_down (dn year)
unfolding years_up years_down
new_year_shifted (pos a) n h =
    let p : (n + 3) / 4 ≡ (a + 3) / 4 + 1469500 = omega arith in
    let q : (n + 99) / 100 ≡ (a + 99) / 100 + 58780 = omega arith in
    let r : (n + 399) / 400 ≡ (a + 399) / 400 + 14695 = omega arith in
    sums a n (years_up a) (years_up n) _ _ _ _ _ _ h (years_up_lem a) (years_up_lem n) p q r
  where
    sums : (a n u v c4 c100 c400 d4 d100 d400 : ℕ) → a + 5878000 ≡ n + 0 → u + c100 ≡ 365 * a + c4 + c400 → v + d100 ≡ 365 * n + d4 + d400 → d4 ≡ c4 + 1469500 → d100 ≡ c100 + 58780 → d400 ≡ c400 + 14695
        → u + 2146895415 ≡ v + 0
    sums a n u v c4 c100 c400 d4 d100 d400 h x y p q r = omega arith
new_year_shifted (negsuc a) n h =
    let p : (n + 3) / 4 + suc a / 4 ≡ 1469500 = omega arith in
    let q : (n + 99) / 100 + suc a / 100 ≡ 58780 = omega arith in
    let r : (n + 399) / 400 + suc a / 400 ≡ 14695 = omega arith in
    sums a n (years_down (suc a)) (years_up n) _ _ _ _ _ _ h (years_down_lem (suc a)) (years_up_lem n) p q r
  where
    sums : (a n u v c4 c100 c400 d4 d100 d400 : ℕ) → 0 + 5878000 ≡ n + suc a → u + c100 ≡ 365 * suc a + c4 + c400 → v + d100 ≡ 365 * n + d4 + d400 → d4 + c4 ≡ 1469500 → d100 + c100 ≡ 58780 → d400 + c400 ≡ 14695
        → 0 + 2146895415 ≡ v + u
    sums a n u v c4 c100 c400 d4 d100 d400 h x y p q r = omega arith

-- ---- a date from its parts, in natural numbers
pub is_date : (day year : ℤ) (month dom : ℕ) → 1 ≤ month → month ≤ 12 → 1 ≤ dom → dom ≤ month_length year month
    → up day + years_up 1970 + years_down (dn year) ≡ dn day + years_up (up year) + (days_before year month + (dom - 1)) → IsDate day year month dom
unfolding new_year
is_date day year month dom a b c d e =
    let o = days_before year month + (dom - 1) in
    record {
      month_from = a;
      month_to = b;
      from = c;
      to = d;
      counted =
          same (day +ℤ new_year (pos 1970)) (new_year year +ℤ pos o)
          (omega (arith, add_is day (new_year (pos 1970)), add_is (new_year year) (pos o), new_year_up year, new_year_dn year, e));
    }

-- ---- day t from 1 March of the year -5,878,000 lies in the year n that begins in March
module _ (day : ℤ) (t n : ℕ) (ht : up day + 2147614883 ≡ t + dn day) (I : InYear t n) where
  abbrev day_of_year : ℕ
  day_of_year = t - march n

  abbrev month : ℕ
  month = (5 * day_of_year + 2) / 153

  abbrev dom : ℕ
  dom = day_of_year - days_from_march month + 1

  -- March to December
  pub spring : month < 10 → (year : ℤ) → Shifted year n → IsDate day year (month + 3) dom
  spring h year s =
      let l = leap (nat_abs year) in
      let e : bit l ≡ bit (leap n) = ap bit (leap_shifted year n s) in
      is_date day year (month + 3) dom (omega arith) (omega arith) (omega arith)
      (last (get_or (lengths l) (month + 3 - 1) 0) day_of_year (days_from_march month) (days_from_march (month + 1)) (spring_length l month h) (month_begun day_of_year) (month_ends day_of_year))
      (sums (up day) (dn day) t (march n) day_of_year (days_from_march month) (days_before year (month + 3)) (bit l) (bit (leap n)) (years_up 1970) (years_up (up year)) (years_down (dn year)) (years_up n) ht I.begun
      refl (month_begun day_of_year) e (spring_before l month h) epoch (new_year_shifted year n s) (new_march n))
    where
      last : (g d f f' : ℕ) → g + f ≡ f' → f ≤ d → d < f' → d - f + 1 ≤ g
      last g d f f' a b c = omega arith

      sums : (u v t m d f b k k' x yu yd w : ℕ) → u + 2147614883 ≡ t + v → m ≤ t → d ≡ t - m → f ≤ d → k ≡ k' → b ≡ 59 + k + f → x ≡ 719528 → yu + 2146895415 ≡ w + yd → w + k' ≡ m + 1
          → u + x + yd ≡ v + yu + (b + (d - f + 1 - 1))
      sums u v t m d f b k k' x yu yd w p q r s a c e g i = omega arith

  -- January and February of the year after
  pub winter : 10 ≤ month → (year : ℤ) → Shifted year (n + 1) → IsDate day year (month - 9) dom
  unfolding lengths sum
  winter h year s =
      let l = leap (nat_abs year) in
      let e : bit l ≡ bit (leap (n + 1)) = ap bit (leap_shifted year (n + 1) s) in
      let b : day_of_year < 365 + bit l = omega (arith, next_march n, I.begun, I.ends) in
      ⊎_elim
      (λ m. rw m (is_date day year 1 (day_of_year - 306 + 1) (omega arith) (omega arith) (omega arith) (january day_of_year m)
      (sums (up day) (dn day) t (march n) day_of_year 306 0 (years_up 1970) (years_up (up year)) (years_down (dn year)) (years_up (n + 1)) ht I.begun refl (omega (arith, m)) refl epoch (new_year_shifted year (n + 1) s) (next_new_year n))))
      (λ m. let k : month ≡ 11 = omega (arith, short day_of_year l b) in
      rw k (is_date day year 2 (day_of_year - 337 + 1) (omega arith) (omega arith) (omega arith) (omega arith)
      (sums (up day) (dn day) t (march n) day_of_year 337 31 (years_up 1970) (years_up (up year)) (years_down (dn year)) (years_up (n + 1)) ht I.begun refl (omega (arith, k)) refl epoch (new_year_shifted year (n + 1) s) (next_new_year n))))
      (eq_or_ne month 10)
    where
      january : (d : ℕ) → (5 * d + 2) / 153 ≡ 10 → d - 306 + 1 ≤ 31
      january d h = omega arith

      short : (d : ℕ) (l : Bool) → d < 365 + bit l → (5 * d + 2) / 153 < 12
      short d true h = omega arith
      short d false h = omega arith

      sums : (u v t m d f b x yu yd w : ℕ) → u + 2147614883 ≡ t + v → m ≤ t → d ≡ t - m → f ≤ d → f ≡ 306 + b → x ≡ 719528 → yu + 2146895415 ≡ w + yd → w ≡ m + 366
          → u + x + yd ≡ v + yu + (b + (d - f + 1 - 1))
      sums u v t m d f b x yu yd w p q r s a c e g = omega arith
