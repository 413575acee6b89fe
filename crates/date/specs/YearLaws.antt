-- The laws of years: their lengths, the days before one in closed form, and which of two comes first.
use Rattle.std.specs.Prelude.{◌≡◌, refl, Bool, true, false, not, ◌&&◌, ◌||◌, ℕ, zero, suc, ◌+◌, ◌-◌, ◌*◌, ◌/◌, ◌%◌, ◌≤◌, ◌<◌, eqb, ℤ, pos, negsuc, nat_abs}
use Rattle.std.proofs.Common.{arith, eqb-true}
use Rattle.std.proofs.lemmas.Bool.{eqb-false}
use Rattle.number.specs.Zed.{up, dn}
use Rattle.number.specs.ZedLaws.{neg_up, neg_dn}
use Rattle.date.specs.Gregorian.{leap, lengths, sum, year_length, years_up, years_down, new_year}
use Rattle.number.specs.Bit.{bit}

-- ---- leap years, as three counts of multiples
abbrev pub divides : ℕ → ℕ → ℕ
divides k n = bit (eqb (n % k) 0)

-- what divides by 400 divides by 100, and what divides by 100 by 4
pub leap_bit : (n : ℕ) → bit (leap n) + divides 100 n ≡ divides 4 n + divides 400 n
unfolding leap
leap_bit n = by (eqb (n % 4) 0) (eqb (n % 100) 0) (eqb (n % 400) 0) (eqb-true (n % 4) 0) (eqb-false (n % 4) 0) (eqb-true (n % 100) 0) (eqb-false (n % 100) 0) (eqb-true (n % 400) 0)
  where
    by : (a b c : Bool) → (a ≡ true → n % 4 ≡ 0) → (a ≡ false → n % 4 ≡ 0 → ⊥) → (b ≡ true → n % 100 ≡ 0) → (b ≡ false → n % 100 ≡ 0 → ⊥) → (c ≡ true → n % 400 ≡ 0)
        → bit (a && (not b || c)) + bit b ≡ bit a + bit c
    by true true true a1 a0 b1 b0 c1 = refl
    by true true false a1 a0 b1 b0 c1 = refl
    by true false true a1 a0 b1 b0 c1 = let h = c1 refl in absurd (b0 refl (omega arith))
    by true false false a1 a0 b1 b0 c1 = refl
    by false true true a1 a0 b1 b0 c1 = let h = b1 refl in absurd (a0 refl (omega arith))
    by false true false a1 a0 b1 b0 c1 = let h = b1 refl in absurd (a0 refl (omega arith))
    by false false true a1 a0 b1 b0 c1 = let h = c1 refl in absurd (a0 refl (omega arith))
    by false false false a1 a0 b1 b0 c1 = refl

-- rounding up and rounding down, and what one more does to rounding down
module _ (n : ℕ) where
  yes_or_no : (k : ℕ) (P : ℕ → Type 0) → (n % k ≡ 0 → P 1) → ((n % k ≡ 0 → ⊥) → P 0) → P (divides k n)
  yes_or_no k P f g = by (eqb (n % k) 0) (eqb-true (n % k) 0) (eqb-false (n % k) 0)
    where
      by : (t : Bool) → (t ≡ true → n % k ≡ 0) → (t ≡ false → n % k ≡ 0 → ⊥) → P (bit t)
      by true y z = f (y refl)
      by false y z = g (z refl)

  pub round_4 : (n + 3) / 4 + divides 4 n ≡ n / 4 + 1
  round_4 = yes_or_no 4 (λ b. (n + 3) / 4 + b ≡ n / 4 + 1) (λ h. omega arith) (λ h. omega arith)

  pub round_100 : (n + 99) / 100 + divides 100 n ≡ n / 100 + 1
  round_100 = yes_or_no 100 (λ b. (n + 99) / 100 + b ≡ n / 100 + 1) (λ h. omega arith) (λ h. omega arith)

  pub round_400 : (n + 399) / 400 + divides 400 n ≡ n / 400 + 1
  round_400 = yes_or_no 400 (λ b. (n + 399) / 400 + b ≡ n / 400 + 1) (λ h. omega arith) (λ h. omega arith)

-- ---- the lengths of years
pub year_length_lem : (year : ℤ) → year_length year ≡ 365 + bit (leap (nat_abs year))
unfolding lengths sum
year_length_lem year = omega arith

-- ---- closed forms: the leap years are the multiples of 4 and of 400, less those of 100
-- one year more, over the quotients q and what they become, c
year_more : (u n l b d4 d100 d400 c4 c100 c400 q4 q100 q400 : ℕ) → u + c100 ≡ 365 * n + c4 + c400 → l ≡ 365 + b → b + d100 ≡ d4 + d400
    → q4 ≡ c4 + d4 → q100 ≡ c100 + d100 → q400 ≡ c400 + d400 → u + l + q100 ≡ 365 * suc n + q4 + q400
year_more u n l b d4 d100 d400 c4 c100 c400 q4 q100 q400 hu hl hb h4 h100 h400 = omega arith

pub years_up_lem : (n : ℕ) → years_up n + (n + 99) / 100 ≡ 365 * n + (n + 3) / 4 + (n + 399) / 400
unfolding years_up
years_up_lem zero = refl
years_up_lem (suc n) =
    year_more (years_up n) n _ _ (divides 4 n) (divides 100 n) (divides 400 n) ((n + 3) / 4) ((n + 99) / 100) ((n + 399) / 400) _ _ _ (years_up_lem n) (year_length_lem (pos n)) (leap_bit n)
    (omega (arith, round_4 n)) (omega (arith, round_100 n)) (omega (arith, round_400 n))

pub years_down_lem : (n : ℕ) → years_down n + n / 100 ≡ 365 * n + n / 4 + n / 400
unfolding years_down
years_down_lem zero = refl
years_down_lem (suc n) =
    year_more (years_down n) n _ _ (divides 4 (suc n)) (divides 100 (suc n)) (divides 400 (suc n)) (n / 4) (n / 100) (n / 400) _ _ _ (years_down_lem n) (year_length_lem (negsuc n)) (leap_bit (suc n))
    (omega (arith, round_4 (suc n))) (omega (arith, round_100 (suc n))) (omega (arith, round_400 (suc n)))

pub year_zero : (years_up 0 ≡ 0) × (years_down 0 ≡ 0)
unfolding years_up years_down
year_zero = (refl, refl)

-- 1 January 1970
pub epoch : years_up 1970 ≡ 719528
epoch = omega (arith, years_up_lem 1970)

-- ---- 1 January of a year, by its two sides
pub new_year_up : (year : ℤ) → up (new_year year) ≡ years_up (up year)
unfolding new_year years_up
new_year_up (pos n) = refl
new_year_up (negsuc n) = neg_up (pos (years_down (suc n)))

pub new_year_dn : (year : ℤ) → dn (new_year year) ≡ years_down (dn year)
unfolding new_year years_down
new_year_dn (pos n) = refl
new_year_dn (negsuc n) = neg_dn (pos (years_down (suc n)))

-- ---- which of two years comes first
grow : (f l : ℕ → ℕ) → ((n : ℕ) → f (suc n) ≡ f n + l n) → (m k : ℕ) → f m ≤ f (m + k)
grow f l h m zero = let e : m + 0 ≡ m = omega arith in rw e (omega arith)
grow f l h m (suc k) = let e : m + suc k ≡ suc (m + k) = omega arith in rw e (omega (arith, h (m + k), grow f l h m k))

grows : (f l : ℕ → ℕ) → ((n : ℕ) → f (suc n) ≡ f n + l n) → (m n : ℕ) → m ≤ n → f m ≤ f n
grows f l h m n k = let e : n ≡ m + (n - m) = omega arith in rw e (grow f l h m (n - m))

pub up_grows : (m n : ℕ) → m ≤ n → years_up m ≤ years_up n
unfolding years_up
up_grows = grows years_up (λ n. year_length (pos n)) (λ n. refl)

pub down_grows : (m n : ℕ) → m ≤ n → years_down m ≤ years_down n
unfolding years_down
down_grows = grows years_down (λ n. year_length (negsuc n)) (λ n. refl)

-- a year ends before a later one begins
pub year_before : (y z : ℤ) → up y + dn z < up z + dn y → years_up (up y) + year_length y + years_down (dn z) ≤ years_up (up z) + years_down (dn y)
unfolding years_up years_down
year_before (pos a) (pos b) h = omega (arith, up_grows (suc a) b (omega arith))
year_before (pos a) (negsuc b) h = absurd (omega arith)
year_before (negsuc a) (pos b) h = omega arith
year_before (negsuc a) (negsuc b) h = omega (arith, down_grows (suc b) a (omega arith))
