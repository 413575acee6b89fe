-- The laws of years that begin in March: the year of an era of 400 that holds a day is Hinnant's quotient, and eras repeat.
use Rattle.std.specs.Prelude.{◌≡◌, refl, ◌⊎◌, ℕ, ◌+◌, ◌-◌, ◌*◌, ◌/◌, ◌%◌, ◌≤◌, ◌<◌}
use Rattle.std.proofs.Common.{inl, inr, ⊎_elim, arith}
use Rattle.number.specs.Order.{lt_or_le}
use Rattle.date.specs.March.{march, year_of_era, InYear}

-- ---- year g of the q-th four years of century c
module _ (y c q g : ℕ) (hy : y ≡ 100 * c + 4 * q + g) (hc : c ≤ 3) (hq : q ≤ 24) (hg : g ≤ 3) where
  fours : y / 4 ≡ 25 * c + q
  fours = omega arith

  hundreds : y / 100 ≡ c
  hundreds = omega arith

  eras : y / 400 ≡ 0
  eras = omega arith

march_sum : (y c q g : ℕ) → y ≡ 100 * c + 4 * q + g → 365 * y + (25 * c + q) - c + 0 ≡ 36524 * c + 1461 * q + 365 * g
march_sum y c q g hy = omega arith

march_at : (y c q g : ℕ) → y ≡ 100 * c + 4 * q + g → c ≤ 3 → q ≤ 24 → g ≤ 3 → march y ≡ 36524 * c + 1461 * q + 365 * g
march_at y c q g hy hc hq hg = rw (fours y c q g hy hc hq hg, hundreds y c q g hy hc hq hg, eras y c q g hy hc hq hg) (march_sum y c q g hy)

module _ (y c q g : ℕ) (hy : y ≡ 100 * c + 4 * q + g) (hc : c ≤ 3) (hq : q ≤ 24) where
  -- the year after it, within the four
  end_within : g < 3 → march (y + 1) ≡ 36524 * c + 1461 * q + 365 * (g + 1)
  end_within h = march_at (y + 1) c q (g + 1) (omega arith) hc hq (omega arith)

  -- within the century
  end_four : g ≡ 3 → q < 24 → march (y + 1) ≡ 36524 * c + 1461 * (q + 1) + 365 * 0
  end_four h k = march_at (y + 1) c (q + 1) 0 (omega arith) hc (omega arith) (omega arith)

  -- within the era
  end_century : g ≡ 3 → q ≡ 24 → c < 3 → march (y + 1) ≡ 36524 * (c + 1) + 1461 * 0 + 365 * 0
  end_century h k l = march_at (y + 1) (c + 1) 0 0 (omega arith) (omega arith) (omega arith) (omega arith)

  end_era : g ≡ 3 → q ≡ 24 → c ≡ 3 → march (y + 1) ≡ 146097
  end_era h k l = let e : y + 1 ≡ 400 = omega arith in rw e

-- day f of the four years
module _ (d y c q g f : ℕ) (hd : d ≡ 36524 * c + 1461 * q + f) (hy : y ≡ 100 * c + 4 * q + g) (hc : c ≤ 3) (hq : q ≤ 24) (hg : g ≤ 3) (low : 365 * g ≤ f) (high : g < 3 → f < 365 * g + 365)
    (last : f < 1461) (short : 1461 * q + f < 36524) where
  ends_by : d < march (y + 1)
  ends_by =
      ⊎_elim (λ a. let h = high a in omega (arith, end_within y c q g hy hc hq a))
      (λ a.
      let g3 : g ≡ 3 = omega arith in
      ⊎_elim (λ b. omega (arith, end_four y c q g hy hc hq g3 b))
      (λ b.
      let q24 : q ≡ 24 = omega arith in
      ⊎_elim (λ e. omega (arith, end_century y c q g hy hc hq g3 q24 e)) (λ e. let c3 : c ≡ 3 = omega arith in omega (arith, end_era y c q g hy hc hq g3 q24 c3)) (lt_or_le c 3))
      (lt_or_le q 24))
      (lt_or_le g 3)

  in_four : InYear d y
  in_four = record { begun = omega (arith, march_at y c q g hy hc hq hg); ends = ends_by }

-- ---- the arithmetic, for every day of an era but the last
quotient_sum : (d c e x : ℕ) → d ≡ 36524 * c + e → x ≤ e → d - (25 * c + x) + c - 0 ≡ 36500 * c + (e - x)
quotient_sum d c e x h k = omega arith

quotient : (d c e : ℕ) → d < 146096 → d ≡ 36524 * c + e → e < 36524 → d - d / 1460 + d / 36524 - d / 146096 ≡ 36500 * c + (e - (24 * c + e) / 1460)
quotient d c e h k l =
    let p : d / 36524 ≡ c = omega arith in
    let q : d / 146096 ≡ 0 = omega arith in
    let r : d / 1460 ≡ 25 * c + (24 * c + e) / 1460 = omega arith in
    rw (p, q, r) (quotient_sum d c e ((24 * c + e) / 1460) k (small c e (omega arith)))
  where
    small : (c e : ℕ) → c ≤ 3 → (24 * c + e) / 1460 ≤ e
    small c e h = omega arith

-- the days that the four-yearly leap days take off: one too many only in the last days of four years
taken : (c e q f : ℕ) → c ≤ 3 → e < 36524 → e ≡ 1461 * q + f → f < 1461 → (((24 * c + e) / 1460 ≡ q) × (f < 1460)) ⊎ (((24 * c + e) / 1460 ≡ q + 1) × (1364 ≤ f))
taken c e q f h k l m = ⊎_elim (λ x. inl (omega arith, omega arith)) (λ x. inr (omega arith, omega arith)) (lt_or_le (24 * c + q + f) 1460)

module _ (d c q f : ℕ) (h : d < 146096) (hd : d ≡ 36524 * c + (1461 * q + f)) (he : 1461 * q + f < 36524) (hf : f < 1461) where
  abbrev e : ℕ
  e = 1461 * q + f

  c_small : c ≤ 3
  c_small = omega arith

  q_small : q ≤ 24
  q_small = omega arith

  year_is : (x g : ℕ) → (24 * c + e) / 1460 ≡ x → 365 * g + x ≤ e - 1460 * q → e - 1460 * q < 365 * g + 365 + x → year_of_era d ≡ 100 * c + 4 * q + g
  year_is x g p a b = rw (quotient d c e h hd he, p) (divided c q f x g a b)
    where
      divided : (c q f x g : ℕ) → 365 * g + x ≤ 1461 * q + f - 1460 * q → 1461 * q + f - 1460 * q < 365 * g + 365 + x → (36500 * c + (1461 * q + f - x)) / 365 ≡ 100 * c + 4 * q + g
      divided c q f x g a b = omega arith

  in_era_year : InYear d (year_of_era d) × (year_of_era d < 400)
  in_era_year =
      ⊎_elim
      (λ t. by (f / 365) (year_is q (f / 365) t.0 (omega arith) (omega arith)) (quarter f t.1) (omega arith) (λ a. omega arith))
      (λ t. by 3 (year_is (q + 1) 3 t.0 (omega (arith, t.1)) (omega (arith, t.1))) (omega arith) (omega (arith, t.1)) (λ a. absurd (omega arith)))
      (taken c e q f c_small he refl hf)
    where
      quarter : (f : ℕ) → f < 1460 → f / 365 ≤ 3
      quarter f h = omega arith

      by : (g : ℕ) → year_of_era d ≡ 100 * c + 4 * q + g → g ≤ 3 → 365 * g ≤ f → (g < 3 → f < 365 * g + 365) → InYear d (year_of_era d) × (year_of_era d < 400)
      by g hy hg low high =
          (in_four d (year_of_era d) c q g f (omega (arith, hd)) hy c_small q_small hg low high hf he, lt (year_of_era d) c q g hy c_small q_small hg)
        where
          lt : (y c q g : ℕ) → y ≡ 100 * c + 4 * q + g → c ≤ 3 → q ≤ 24 → g ≤ 3 → y < 400
          lt y c q g a b h k = omega arith

pub year_of_era_lem : (d : ℕ) → d < 146097 → InYear d (year_of_era d) × (year_of_era d < 400)
year_of_era_lem d h = ⊎_elim (few d) (λ l. last d (omega (arith, l))) (lt_or_le d 146096)
  where
    few : (d : ℕ) → d < 146096 → InYear d (year_of_era d) × (year_of_era d < 400)
    few d l = in_era_year d (d / 36524) (d % 36524 / 1461) (d % 36524 % 1461) l (omega arith) (omega arith) (omega arith)

    last : (d : ℕ) → d ≡ 146096 → InYear d (year_of_era d) × (year_of_era d < 400)
    last d e = rw e (record { begun = omega arith; ends = omega arith }, omega arith)

-- ---- k eras on
march_era_sum : (y k a b c : ℕ) → b ≤ a → 365 * (y + 400 * k) + (a + 100 * k) - (b + 4 * k) + (c + k) ≡ 365 * y + a - b + c + 146097 * k
march_era_sum y k a b c h = omega arith

pub hundreds_fours : (y : ℕ) → y / 100 ≤ y / 4
hundreds_fours y = omega arith

pub march_era : (y k : ℕ) → march (y + 400 * k) ≡ march y + 146097 * k
march_era y k =
    let p : (y + 400 * k) / 4 ≡ y / 4 + 100 * k = omega arith in
    let q : (y + 400 * k) / 100 ≡ y / 100 + 4 * k = omega arith in
    let r : (y + 400 * k) / 400 ≡ y / 400 + k = omega arith in
    rw (p, q, r) (march_era_sum y k (y / 4) (y / 100) (y / 400) (hundreds_fours y))

pub in_era : (d y k : ℕ) → InYear d y → InYear (d + 146097 * k) (y + 400 * k)
in_era d y k I =
    let e : y + 400 * k + 1 ≡ y + 1 + 400 * k = omega arith in
    record { begun = omega (arith, march_era y k, I.begun); ends = rw e (omega (arith, march_era (y + 1) k, I.ends)) }
