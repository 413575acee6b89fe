-- A lower bound on work: a minute a week, but for exceptional days, so that no walk starves.
use Rattle.std.specs.Prelude.{◌≡◌, refl, Bool, true, false, ◌||◌, ℕ, zero, suc, ◌+◌, ◌-◌, ◌*◌, ◌/◌, ◌%◌, ◌≤◌, ◌<◌, eqb}
use Rattle.std.proofs.Common.{sym, ap, ◌∙◌, true≢false, ⊎_elim, arith, eqb-true}
use Rattle.std.proofs.lemmas.Bool.{eqb-false}
use Rattle.number.specs.Order.{cases, lt_or_le}
use Rattle.worktime.specs.Worked.{count, IsNextStart, IsAdvance, IsRetreat}
use Rattle.number.specs.Bit.{bit}
use Rattle.worktime.specs.Count.{count_zero, count_suc, count_worked, count_idle, count_mono, reach}
use Rattle.worktime.specs.Exist.{next_start_below, advance_exists, retreat_above}

-- from minute t on minute `u j` of week j is worked unless its day is one of n exceptional ones, and these minutes lie on one weekday
pub record Weekly (w : ℕ → Bool) (ex : ℕ → ℕ) (n t : ℕ) (u : ℕ → ℕ) : Type 0 where
  pub within : (j : ℕ) → (t + 10080 * j ≤ u j) × (u j < t + 10080 * suc j)
  pub weekday : (j : ℕ) → u j / 1440 ≡ u 0 / 1440 + 7 * j
  pub worked : (j : ℕ) → ((i : ℕ) → i < n → ex i ≡ u j / 1440 → ⊥) → w (u j) ≡ true

-- ---- counts of two tests

or_le : (a b : Bool) → bit (a || b) ≤ bit a + bit b
or_le true b = omega arith
or_le false b = omega arith

pub count_or : (p q : ℕ → Bool) (k : ℕ) → count (λ x. p x || q x) k ≤ count p k + count q k
count_or p q zero = omega (arith, count_zero (λ x. p x || q x))
count_or p q (suc k) =
    omega (arith, count_suc (λ x. p x || q x) k, count_suc p k, count_suc q k, or_le (p k) (q k), count_or p q k)

-- what holds of at most one number counts at most 1
pub count_once : (p : ℕ → Bool) → ((i j : ℕ) → p i ≡ true → p j ≡ true → i ≡ j) → (k : ℕ) → count p k ≤ 1
count_once p h k =
    ⊎_elim
    (λ l.
    let a = reach p k 0 (omega arith) in
    let b = reach p k 1 l in
    absurd (omega (arith, a.3, b.3, ap (count p) (h a.0 b.0 a.2 b.2)))) (λ l. l) (lt_or_le 1 (count p k))

-- ---- spans of s minutes: one minute for each, but for those that are missed

pub count_spans : (w missed : ℕ → Bool) (t s k : ℕ)
    → ((j : ℕ) → j < k → missed j ≡ false → (u : ℕ) × (t + s * j ≤ u) × (u < t + s * suc j) × (w u ≡ true))
    → count w t + k ≤ count w (t + s * k) + count missed k
count_spans w missed t s zero h = let e : t + s * 0 ≡ t = omega arith in omega (arith, ap (count w) e)
count_spans w missed t s (suc k) h =
    let ih = count_spans w missed t s k (λ j l. h j (omega arith)) in
    ⊎_elim (λ e. omega (arith, ih, count_worked missed k e, count_mono w {s = t + s * k} {t = t + s * suc k} (omega arith)))
    (λ e.
    let r = h k (omega arith) e in
    omega (
      arith,
      ih,
      count_idle missed k e,
      count_mono w {s = t + s * k} {t = r.0} r.1,
      count_worked w r.0 r.3,
      count_mono w {s = suc r.0} {t = t + s * suc k} r.2,
    )) (cases (missed k))

-- ---- exceptional days

-- day d is among the first n
unfoldable pub among : (ℕ → ℕ) → ℕ → ℕ → Bool
among ex zero d = false
among ex (suc n) d = eqb (ex n) d || among ex n d

or_false : (a b : Bool) → (a || b) ≡ false → (a ≡ false) × (b ≡ false)
or_false true b e = absurd (true≢false e)
or_false false b e = (refl, e)

among_not : (ex : ℕ → ℕ) (n d : ℕ) → among ex n d ≡ false → (i : ℕ) → i < n → ex i ≡ d → ⊥
unfolding among
among_not ex zero d e i l f = absurd (omega arith)
among_not ex (suc n) d e i l f =
    let p = or_false (eqb (ex n) d) (among ex n d) e in
    ⊎_elim (λ a. among_not ex n d p.1 i a f) (λ a. let s : n ≡ i = omega arith in eqb-false (ex n) d p.0 (ap ex s ∙ f)) (lt_or_le i n)

-- each exceptional day is met by at most one of distinct days
pub count_among : (ex : ℕ → ℕ) (day : ℕ → ℕ) → ((i j : ℕ) → day i ≡ day j → i ≡ j) → (n k : ℕ) → count (λ j. among ex n (day j)) k ≤ n
unfolding among
count_among ex day h zero k = count_never k
  where
    count_never : (k : ℕ) → count (λ j. false) k ≤ 0
    count_never zero = omega (arith, count_zero (λ j. false))
    count_never (suc k) = omega (arith, count_idle (λ j. false) k refl, count_never k)
count_among ex day h (suc n) k =
    omega (
      arith,
      count_or (λ j. eqb (ex n) (day j)) (λ j. among ex n (day j)) k,
      count_once (λ j. eqb (ex n) (day j)) (λ i j a b. h i j (sym (eqb-true (ex n) (day i) a) ∙ eqb-true (ex n) (day j) b)) k,
      count_among ex day h n k,
    )

-- ---- the bound

module _ {w : ℕ → Bool} {ex : ℕ → ℕ} {n t : ℕ} {u : ℕ → ℕ} (h : Weekly w ex n t u) where
  pub weekly_count : (k : ℕ) → count w t + k ≤ count w (t + 10080 * k) + n
  weekly_count k =
      omega (
        arith,
        count_spans w (λ j. among ex n (u j / 1440)) t 10080 k
            (λ j l e. (u j, (h.within j).0, (h.within j).1, h.worked j (among_not ex n (u j / 1440) e))),
        count_among ex (λ j. u j / 1440) (λ i j e. omega (arith, h.weekday i, h.weekday j)) n k,
      )

  -- "256 E can't starve the 3,660-day search": a next start comes within n + 1 weeks
  pub weekly_next_start : (v : ℕ) × (v < t + 10080 * (n + 1)) × IsNextStart w t v
  weekly_next_start = next_start_below w t (t + 10080 * (n + 1)) (omega (arith, weekly_count (n + 1)))

  -- m minutes of work are done within m + n weeks
  pub weekly_advance : (m : ℕ) → (v : ℕ) × (v ≤ t + 10080 * (m + n)) × IsAdvance w t m v
  weekly_advance m = advance_exists w t m (t + 10080 * (m + n)) (omega arith) (omega (arith, weekly_count (m + n)))

  -- and back from m + n weeks later
  pub weekly_retreat : (m : ℕ) → (v : ℕ) × (t ≤ v) × IsRetreat w (t + 10080 * (m + n)) m v
  weekly_retreat m = retreat_above w (t + 10080 * (m + n)) m t (omega arith) (omega (arith, weekly_count (m + n)))

-- ---- a calendar of weeks: minute c of every week is worked, but for exceptional days

-- the first minute c of a week that is not before t
abbrev pub first : ℕ → ℕ → ℕ
first c t = t + (c + 10080 - t % 10080) % 10080

module _ (w : ℕ → Bool) (ex : ℕ → ℕ) (n c : ℕ) (inside : c < 10080)
    (regular : (v : ℕ) → v % 10080 ≡ c → ((i : ℕ) → i < n → ex i ≡ v / 1440 → ⊥) → w v ≡ true) where
  pub regular_weekly : (t : ℕ) → Weekly w ex n t (λ j. first c t + 10080 * j)
  regular_weekly t = record {
    within = λ j. (omega arith, omega arith);
    weekday = λ j. omega arith;
    worked = λ j h. regular (first c t + 10080 * j) (omega arith) h;
  }

  pub regular_endless : (t : ℕ) → (v : ℕ) × (t ≤ v) × (w v ≡ true)
  regular_endless t = let r = weekly_next_start (regular_weekly t) in (r.0, r.2.after, r.2.worked)
