-- The ways of the smaller, the larger and the held number, and the exact values of shares and whole days on both sides of zero.
use Rattle.std.specs.Prelude.{◌≡◌, refl, Bool, true, false, cond, ◌⊎◌, ℕ, ◌+◌, ◌*◌, ◌/◌, ◌≤◌, ◌<◌, max, ℤ, pos, negsuc, nat_abs, ◌*ℤ◌}
use Rattle.std.proofs.Math.Path.{ap}
use Rattle.std.proofs.Common.{sym, ◌∙◌, inl, inr, ⊎_elim, mul-le-mul, arith}
use Rattle.std.specs.Int.{int_min, int_max}
use Rattle.std.specs.Int.Signed.{lt_z, quot_z}
use Rattle.number.specs.Order.{cases}
use Rattle.number.specs.Zed.{up, dn}
use Rattle.number.specs.ZedLaws.{apart, same, abs_is, lt_z_true, lt_z_false}
use Rattle.number.specs.QuotLaws.{abs_mul, abs_quot, mul_up, mul_dn, quot_up, quot_dn}
use Rattle.number.specs.Sign.{min_z, max_z, clamp_z, percent_of, whole_days}

-- ---- as std says them
module _ (a b : ℤ) where
  pub min_is : int_min a b ≡ min_z a b
  unfolding min_z
  min_is = go (lt_z b a)
    where
      go : (t : Bool) → cond t b a ≡ elim t [ true ↦ b | false ↦ a ]
      go true = refl
      go false = refl

  pub max_is : int_max a b ≡ max_z a b
  unfolding max_z
  max_is = go (lt_z b a) (lt_z a b) (lt_z_true a b) (lt_z_false a b) (lt_z_true b a) (lt_z_false b a)
    where
      go : (t u : Bool) → (u ≡ true → up a + dn b < up b + dn a) → (u ≡ false → up b + dn a ≤ up a + dn b) → (t ≡ true → up b + dn a < up a + dn b) → (t ≡ false → up a + dn b ≤ up b + dn a)
          → cond t a b ≡ elim u [ true ↦ b | false ↦ a ]
      go true true p q r s = let h = p refl in let k = r refl in absurd (omega arith)
      go true false p q r s = refl
      go false true p q r s = refl
      go false false p q r s = let h = q refl in let k = s refl in same b a (omega arith)

-- ---- the ways
module _ (a b : ℤ) where
  pub min_first : lt_z b a ≡ false → min_z a b ≡ a
  unfolding min_z
  min_first e = rw (e, min_z)

  pub min_second : lt_z b a ≡ true → min_z a b ≡ b
  unfolding min_z
  min_second e = rw (e, min_z)

  pub max_first : lt_z a b ≡ false → max_z a b ≡ a
  unfolding max_z
  max_first e = rw (e, max_z)

  pub max_second : lt_z a b ≡ true → max_z a b ≡ b
  unfolding max_z
  max_second e = rw (e, max_z)

  -- which of the two it is, with their order
  pub min_cases : ((min_z a b ≡ a) × (up a + dn b ≤ up b + dn a)) ⊎ ((min_z a b ≡ b) × (up b + dn a < up a + dn b))
  min_cases = ⊎_elim (λ e. inr (min_second e, lt_z_true b a e)) (λ e. inl (min_first e, lt_z_false b a e)) (cases (lt_z b a))

  pub max_cases : ((max_z a b ≡ a) × (up b + dn a ≤ up a + dn b)) ⊎ ((max_z a b ≡ b) × (up a + dn b < up b + dn a))
  max_cases = ⊎_elim (λ e. inr (max_second e, lt_z_true a b e)) (λ e. inl (max_first e, lt_z_false a b e)) (cases (lt_z a b))

module _ (z lo hi : ℤ) where
  pub clamp_low : lt_z z lo ≡ true → clamp_z z lo hi ≡ lo
  unfolding clamp_z
  clamp_low e = rw (e, clamp_z)

  pub clamp_high : lt_z z lo ≡ false → lt_z hi z ≡ true → clamp_z z lo hi ≡ hi
  unfolding clamp_z
  clamp_high e f = rw (e, clamp_z, f)

  pub clamp_within : lt_z z lo ≡ false → lt_z hi z ≡ false → clamp_z z lo hi ≡ z
  unfolding clamp_z
  clamp_within e f = rw (e, clamp_z, f)

  pub clamp_down : lt_z z lo ≡ false → clamp_z z lo hi ≡ min_z z hi
  unfolding clamp_z min_z
  clamp_down e = rw (e, clamp_z, min_z)

  -- between the two, where they are in order
  pub clamp_between : up lo + dn hi ≤ up hi + dn lo → let r : ℤ = clamp_z z lo hi in (up lo + dn r ≤ up r + dn lo) × (up r + dn hi ≤ up hi + dn r)
  clamp_between h =
      ⊎_elim (λ (e : lt_z z lo ≡ true). rw (clamp_low e) (omega arith, omega arith))
      (λ (e : lt_z z lo ≡ false).
      let l = lt_z_false z lo e in
      ⊎_elim (λ (f : lt_z hi z ≡ true). rw (clamp_high e f) (omega arith, omega arith))
      (λ (f : lt_z hi z ≡ false). let m = lt_z_false hi z f in rw (clamp_within e f) (omega arith, omega arith)) (cases (lt_z hi z)))
      (cases (lt_z z lo))

  -- as std says it
  pub clamp_is : up lo + dn hi ≤ up hi + dn lo → int_max lo (int_min z hi) ≡ clamp_z z lo hi
  clamp_is h =
      ap (int_max lo) (min_is z hi) ∙ max_is lo (min_z z hi)
      ∙ ⊎_elim (λ (e : lt_z z lo ≡ true). low (lt_z_true z lo e) ∙ sym (clamp_low e)) (λ (e : lt_z z lo ≡ false). high (lt_z_false z lo e) ∙ sym (clamp_down e)) (cases (lt_z z lo))
    where
      low : up z + dn lo < up lo + dn z → max_z lo (min_z z hi) ≡ lo
      low l =
          ⊎_elim (λ m. rw m.0 (⊎_elim (λ x. x.0) (λ x. absurd (omega (arith, x.1, l))) (max_cases lo z)))
          (λ m. absurd (omega (arith, m.1, l, h))) (min_cases z hi)

      high : up lo + dn z ≤ up z + dn lo → max_z lo (min_z z hi) ≡ min_z z hi
      high l =
          ⊎_elim (λ m. rw m.0 (⊎_elim (λ x. x.0 ∙ same lo z (omega (arith, x.1, l))) (λ x. x.0) (max_cases lo z)))
          (λ m. rw m.0 (⊎_elim (λ x. x.0 ∙ same lo hi (omega (arith, x.1, h))) (λ x. x.0) (max_cases lo hi))) (min_cases z hi)

-- ---- a share is held to 100 times the whole
pub held_size : (share : ℤ) → nat_abs (clamp_z share (negsuc 999999) (pos 1000000)) ≤ 1000000
held_size z =
    ⊎_elim (λ e. rw (clamp_low z (negsuc 999999) (pos 1000000) e) (omega arith))
    (λ e. ⊎_elim (λ f. rw (clamp_high z (negsuc 999999) (pos 1000000) e f) (omega arith))
    (λ f. rw (clamp_within z (negsuc 999999) (pos 1000000) e f) (inside e f)) (cases (lt_z (pos 1000000) z))) (cases (lt_z z (negsuc 999999)))
  where
    inside : lt_z z (negsuc 999999) ≡ false → lt_z (pos 1000000) z ≡ false → nat_abs z ≤ 1000000
    inside e f =
        let h = lt_z_false z (negsuc 999999) e in
        let k = lt_z_false (pos 1000000) z f in
        ⊎_elim (λ u. omega (arith, abs_is z)) (λ d. omega (arith, abs_is z)) (apart z)

module _ (duration share : ℤ) (short : up duration + dn duration ≤ 48000000) where
  pub percent_product : nat_abs (duration *ℤ clamp_z share (negsuc 999999) (pos 1000000)) ≤ 48000000000000
  percent_product =
      let held = clamp_z share (negsuc 999999) (pos 1000000) in
      let hd : nat_abs duration ≤ 48000000 = omega (arith, abs_is duration) in
      rw (abs_mul duration held) (omega (arith, mul-le-mul hd (held_size share)))

  pub percent_size : up (percent_of duration share) + dn (percent_of duration share) ≤ 4800000000
  unfolding percent_of
  percent_size =
      let p = duration *ℤ clamp_z share (negsuc 999999) (pos 1000000) in
      omega (arith, percent_product, abs_quot p (pos 10000), abs_is (quot_z p (pos 10000)))

-- ---- the exact values, by natural division
module _ (d : ℕ) (share : ℤ) where
  pub percent_up : up (percent_of (pos d) share) ≡ d * up (clamp_z share (negsuc 999999) (pos 1000000)) / 10000
  unfolding percent_of
  percent_up =
      let held = clamp_z share (negsuc 999999) (pos 1000000) in
      quot_up (pos d *ℤ held) 10000 ∙ ap (λ (n : ℕ). n / 10000) (mul_up d held)

  pub percent_dn : dn (percent_of (pos d) share) ≡ d * dn (clamp_z share (negsuc 999999) (pos 1000000)) / 10000
  unfolding percent_of
  percent_dn =
      let held = clamp_z share (negsuc 999999) (pos 1000000) in
      quot_dn (pos d *ℤ held) 10000 ∙ ap (λ (n : ℕ). n / 10000) (mul_dn d held)

pub days_of_zero : (minutes : ℤ) (n : ℕ) → n ≡ 0 → whole_days minutes n ≡ minutes
unfolding whole_days
days_of_zero minutes n h =
    let e : max n 1 ≡ 1 = omega arith in
    rw e (same (quot_z minutes (pos 1)) minutes (omega (arith, quot_up minutes 1, quot_dn minutes 1)))

pub days_of_some : (minutes : ℤ) (n : ℕ) → (n ≡ 0 → ⊥) → whole_days minutes n ≡ quot_z minutes (pos n)
unfolding whole_days
days_of_some minutes n h = let e : max n 1 ≡ n = omega arith in rw e

pub days_up : (minutes : ℤ) (n : ℕ) → up (whole_days minutes n) ≡ up minutes / max n 1
unfolding whole_days
days_up minutes n = quot_up minutes (max n 1)

pub days_dn : (minutes : ℤ) (n : ℕ) → dn (whole_days minutes n) ≡ dn minutes / max n 1
unfolding whole_days
days_dn minutes n = quot_dn minutes (max n 1)
