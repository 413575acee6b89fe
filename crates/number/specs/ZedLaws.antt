-- The laws of the two sides of an integer: tests, sums, differences and ranges.
use Rattle.std.specs.Prelude.{◌≡◌, refl, Bool, true, false, cond, ◌⊎◌, ℕ, zero, suc, ◌+◌, ◌-◌, ◌^◌, ◌≤◌, ◌<◌, T, ltb, ℤ, pos, negsuc, neg_ℤ, nat_abs, ◌+ℤ◌, ◌-ℤ◌}
use Rattle.std.proofs.Common.{sym, ap, subst, inl, inr, ⊎_elim, arith, pow_pos, ltb-true, ltb-false, leb-true, leb-false, lt-ltb, le-ltb, le-leb}
use Rattle.std.proofs.Math.IntN.{sub_ℕ, +ℤ_idl}
use Rattle.std.specs.Int.Signed.{lt_z, le_z, non_neg}
use Rattle.std.proofs.lemmas.Bool.{lt-leb}
use Rattle.std.specs.Int.{Width}
use mir.Val.{SFits, hbits}
use Rattle.number.specs.Zed.{up, dn}

-- one of the two is 0
pub apart : (z : ℤ) → (up z ≡ 0) ⊎ (dn z ≡ 0)
apart (pos n) = inr refl
apart (negsuc n) = inl refl

-- two integers with one difference are one
pub same : (a b : ℤ) → up a + dn b ≡ up b + dn a → a ≡ b
same (pos a) (pos b) h = let e : a ≡ b = omega arith in ap pos e
same (pos a) (negsuc b) h = absurd (omega arith)
same (negsuc a) (pos b) h = absurd (omega arith)
same (negsuc a) (negsuc b) h = let e : a ≡ b = omega arith in ap negsuc e

pub is_pos : (z : ℤ) → dn z ≡ 0 → z ≡ pos (up z)
is_pos (pos n) h = refl
is_pos (negsuc n) h = absurd (omega arith)

pub is_neg : (z : ℤ) → up z ≡ 0 → z ≡ neg_ℤ (pos (dn z))
is_neg (pos zero) h = refl
is_neg (pos (suc n)) h = absurd (omega arith)
is_neg (negsuc n) h = refl

-- ---- tests, and back
pub lt_z_true : (a b : ℤ) → lt_z a b ≡ true → up a + dn b < up b + dn a
lt_z_true (pos a) (pos b) e = omega (arith, ltb-true a b e)
lt_z_true (pos a) (negsuc b) e = absurd (subst T (sym e) tt)
lt_z_true (negsuc a) (pos b) e = omega arith
lt_z_true (negsuc a) (negsuc b) e = omega (arith, ltb-true b a e)

pub lt_z_false : (a b : ℤ) → lt_z a b ≡ false → up b + dn a ≤ up a + dn b
lt_z_false (pos a) (pos b) e = omega (arith, ltb-false a b e)
lt_z_false (pos a) (negsuc b) e = omega arith
lt_z_false (negsuc a) (pos b) e = absurd (subst T e tt)
lt_z_false (negsuc a) (negsuc b) e = omega (arith, ltb-false b a e)

pub le_z_true : (a b : ℤ) → le_z a b ≡ true → up a + dn b ≤ up b + dn a
le_z_true (pos a) (pos b) e = omega (arith, leb-true a b e)
le_z_true (pos a) (negsuc b) e = absurd (subst T (sym e) tt)
le_z_true (negsuc a) (pos b) e = omega arith
le_z_true (negsuc a) (negsuc b) e = omega (arith, leb-true b a e)

pub le_z_false : (a b : ℤ) → le_z a b ≡ false → up b + dn a < up a + dn b
le_z_false (pos a) (pos b) e = omega (arith, leb-false a b e)
le_z_false (pos a) (negsuc b) e = omega arith
le_z_false (negsuc a) (pos b) e = absurd (subst T e tt)
le_z_false (negsuc a) (negsuc b) e = omega (arith, leb-false b a e)

pub lt_lt_z : (a b : ℤ) → up a + dn b < up b + dn a → lt_z a b ≡ true
lt_lt_z (pos a) (pos b) h = lt-ltb a b (omega arith)
lt_lt_z (pos a) (negsuc b) h = absurd (omega arith)
lt_lt_z (negsuc a) (pos b) h = refl
lt_lt_z (negsuc a) (negsuc b) h = lt-ltb b a (omega arith)

pub le_lt_z : (a b : ℤ) → up b + dn a ≤ up a + dn b → lt_z a b ≡ false
le_lt_z (pos a) (pos b) h = le-ltb a b (omega arith)
le_lt_z (pos a) (negsuc b) h = refl
le_lt_z (negsuc a) (pos b) h = absurd (omega arith)
le_lt_z (negsuc a) (negsuc b) h = le-ltb b a (omega arith)

pub le_le_z : (a b : ℤ) → up a + dn b ≤ up b + dn a → le_z a b ≡ true
le_le_z (pos a) (pos b) h = le-leb a b (omega arith)
le_le_z (pos a) (negsuc b) h = absurd (omega arith)
le_le_z (negsuc a) (pos b) h = refl
le_le_z (negsuc a) (negsuc b) h = le-leb b a (omega arith)

pub lt_le_z : (a b : ℤ) → up b + dn a < up a + dn b → le_z a b ≡ false
lt_le_z (pos a) (pos b) h = lt-leb a b (omega arith)
lt_le_z (pos a) (negsuc b) h = refl
lt_le_z (negsuc a) (pos b) h = absurd (omega arith)
lt_le_z (negsuc a) (negsuc b) h = lt-leb b a (omega arith)

-- ---- tests against 0
pub ge0 : (z : ℤ) → le_z (pos 0) z ≡ true → dn z ≡ 0
ge0 (pos n) e = refl
ge0 (negsuc n) e = absurd (subst T (sym e) tt)

pub nge0 : (z : ℤ) → le_z (pos 0) z ≡ false → up z ≡ 0
nge0 (pos n) e = let h : n < 0 = leb-false 0 n e in omega arith
nge0 (negsuc n) e = refl

pub lt0 : (z : ℤ) → lt_z z (pos 0) ≡ true → up z ≡ 0
lt0 (pos n) e = let h : n < 0 = ltb-true n 0 e in omega arith
lt0 (negsuc n) e = refl

pub nlt0 : (z : ℤ) → lt_z z (pos 0) ≡ false → dn z ≡ 0
nlt0 (pos n) e = refl
nlt0 (negsuc n) e = absurd (subst T e tt)

-- ---- sums and differences
sub_is : (a b : ℕ) → up (sub_ℕ a b) + b ≡ dn (sub_ℕ a b) + a
sub_is a b = by (ltb a b) (ltb-true a b) (ltb-false a b)
  where
    by : (t : Bool) → (t ≡ true → a < b) → (t ≡ false → b ≤ a) → up (cond t (negsuc (b - suc a)) (pos (a - b))) + b ≡ dn (cond t (negsuc (b - suc a)) (pos (a - b))) + a
    by true y n = let h : a < b = y refl in omega arith
    by false y n = let h : b ≤ a = n refl in omega arith

pub neg_up : (z : ℤ) → up (neg_ℤ z) ≡ dn z
neg_up (pos zero) = refl
neg_up (pos (suc n)) = refl
neg_up (negsuc n) = refl

pub neg_dn : (z : ℤ) → dn (neg_ℤ z) ≡ up z
neg_dn (pos zero) = refl
neg_dn (pos (suc n)) = refl
neg_dn (negsuc n) = refl

pub add_is : (a b : ℤ) → up (a +ℤ b) + (dn a + dn b) ≡ dn (a +ℤ b) + (up a + up b)
add_is (pos a) (pos b) = omega arith
add_is (pos a) (negsuc b) = omega (arith, sub_is a (suc b))
add_is (negsuc a) (pos b) = omega (arith, sub_is b (suc a))
add_is (negsuc a) (negsuc b) = omega arith

pub minus_is : (a b : ℤ) → up (a -ℤ b) + (dn a + up b) ≡ dn (a -ℤ b) + (up a + dn b)
minus_is a b = omega (arith, add_is a (neg_ℤ b), neg_up b, neg_dn b)

-- the exact values, by the subtraction that stops at 0
pub add_up : (a b : ℤ) → up (a +ℤ b) ≡ up a + up b - (dn a + dn b)
add_up a b = let e = add_is a b in ⊎_elim (λ h. omega arith) (λ h. omega arith) (apart (a +ℤ b))

pub add_dn : (a b : ℤ) → dn (a +ℤ b) ≡ dn a + dn b - (up a + up b)
add_dn a b = let e = add_is a b in ⊎_elim (λ h. omega arith) (λ h. omega arith) (apart (a +ℤ b))

pub minus_up : (a b : ℤ) → up (a -ℤ b) ≡ up a + dn b - (dn a + up b)
minus_up a b = omega (arith, add_up a (neg_ℤ b), neg_up b, neg_dn b)

pub minus_dn : (a b : ℤ) → dn (a -ℤ b) ≡ dn a + up b - (up a + dn b)
minus_dn a b = omega (arith, add_dn a (neg_ℤ b), neg_up b, neg_dn b)

pub zero_minus : (z : ℤ) → pos 0 -ℤ z ≡ neg_ℤ z
zero_minus z = +ℤ_idl (neg_ℤ z)

-- -1 - n
pub minus_one : (n : ℕ) → negsuc 0 -ℤ pos n ≡ negsuc n
minus_one zero = refl
minus_one (suc n) = let e : 0 + n ≡ n = omega arith in ap (λ (k : ℕ). negsuc (suc k)) e

-- ---- ranges, at any width
module _ (w : Width) where
  pub fits_sides : (z : ℤ) → up z < 2 ^ hbits w → dn z ≤ 2 ^ hbits w → SFits w z
  fits_sides (pos n) h k = record { sfits = h }
  fits_sides (negsuc n) h k = record { sfits = k }

  pub up_fits : (z : ℤ) → SFits w z → up z < 2 ^ hbits w
  up_fits (pos n) h = h.sfits
  up_fits (negsuc n) h = pow_pos (hbits w)

  pub dn_fits : (z : ℤ) → SFits w z → dn z ≤ 2 ^ hbits w
  dn_fits (pos n) h = omega arith
  dn_fits (negsuc n) h = h.sfits

  pub neg_fits : (z : ℤ) → SFits w z → dn z < 2 ^ hbits w → SFits w (neg_ℤ z)
  neg_fits z f h = fits_sides (neg_ℤ z) (omega (arith, neg_up z)) (omega (arith, neg_dn z, up_fits z f))

-- ---- sizes, and what a cast to an unsigned type asks and gives
pub non_neg_of : (z : ℤ) → dn z ≡ 0 → T (non_neg z)
non_neg_of (pos n) h = tt
non_neg_of (negsuc n) h = absurd (omega arith)

pub abs_is : (z : ℤ) → nat_abs z ≡ up z + dn z
abs_is (pos n) = omega arith
abs_is (negsuc n) = omega arith

pub abs_up : (z : ℤ) → dn z ≡ 0 → nat_abs z ≡ up z
abs_up z h = omega (arith, abs_is z)
