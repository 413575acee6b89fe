-- Products and quotients of integers by natural multiplication and division, on both sides of zero.
use Rattle.std.specs.Prelude.{◌≡◌, refl, ℕ, zero, suc, ◌*◌, ◌/◌, ◌^◌, ◌<◌, ℤ, pos, negsuc, neg_ℤ, nat_abs, ◌*ℤ◌}
use Rattle.std.proofs.Common.{sym, ◌∙◌, div-le_self, mul-zero, arith}
use Rattle.std.proofs.Math.Nat.{zero-div}
use Rattle.std.specs.Int.Signed.{quot_z}
use Rattle.std.specs.Int.{Width}
use mir.Val.{SFits, hbits}
use Rattle.number.specs.Zed.{up, dn}
use Rattle.number.specs.ZedLaws.{neg_up, neg_dn, up_fits, dn_fits, fits_sides, abs_is}

abs_neg : (n : ℕ) → nat_abs (neg_ℤ (pos n)) ≡ n
abs_neg zero = refl
abs_neg (suc n) = refl

pub abs_mul : (a b : ℤ) → nat_abs (a *ℤ b) ≡ nat_abs a * nat_abs b
abs_mul (pos a) (pos b) = refl
abs_mul (pos a) (negsuc b) = abs_neg (a * suc b)
abs_mul (negsuc a) (pos b) = abs_neg (suc a * b)
abs_mul (negsuc a) (negsuc b) = refl

pub abs_quot : (m d : ℤ) → nat_abs (quot_z m d) ≡ nat_abs m / nat_abs d
abs_quot (pos a) (pos b) = refl
abs_quot (pos a) (negsuc b) = abs_neg (a / suc b)
abs_quot (negsuc a) (pos b) = abs_neg (suc a / b)
abs_quot (negsuc a) (negsuc b) = refl

-- a natural number times an integer: each side by itself
pub mul_up : (a : ℕ) (z : ℤ) → up (pos a *ℤ z) ≡ a * up z
mul_up a (pos b) = refl
mul_up a (negsuc b) = neg_up (pos (a * suc b)) ∙ sym (mul-zero a)

pub mul_dn : (a : ℕ) (z : ℤ) → dn (pos a *ℤ z) ≡ a * dn z
mul_dn a (pos b) = sym (mul-zero a)
mul_dn a (negsuc b) = neg_dn (pos (a * suc b))

-- a quotient by a natural number: each side by itself
pub quot_up : (m : ℤ) (d : ℕ) → up (quot_z m (pos d)) ≡ up m / d
quot_up (pos a) d = refl
quot_up (negsuc a) d = neg_up (pos (suc a / d)) ∙ sym (zero-div d)

pub quot_dn : (m : ℤ) (d : ℕ) → dn (quot_z m (pos d)) ≡ dn m / d
quot_dn (pos a) d = sym (zero-div d)
quot_dn (negsuc a) d = neg_dn (pos (suc a / d))

-- ---- ranges
module _ (w : Width) where
  pub fits_abs : (z : ℤ) → nat_abs z < 2 ^ hbits w → SFits w z
  fits_abs z h = fits_sides w z (omega (arith, abs_is z)) (omega (arith, abs_is z))

  pub quot_fits : (m : ℤ) (d : ℕ) → SFits w m → SFits w (quot_z m (pos d))
  quot_fits m d f =
      fits_sides w (quot_z m (pos d)) (omega (arith, quot_up m d, div-le_self (up m) d, up_fits w m f))
      (omega (arith, quot_dn m d, div-le_self (dn m) d, dn_fits w m f))
