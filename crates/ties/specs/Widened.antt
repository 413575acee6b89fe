-- A signed number of 32 bits as one of 64: it fits, and what the machine reads back is the number.
use Rattle.std.specs.Prelude.{◌≡◌, ◌<◌, ◌^◌, ℤ}
use Rattle.std.proofs.Common.{arith, to_z-of_z, SFits, to_z, of_z}
use Rattle.std.proofs.Math.Facts.{sfits_widen}
use Rattle.std.specs.Int.{w32, w64}
use Rattle.number.specs.Zed.{dn}
use Rattle.number.specs.ZedLaws.{dn_fits}

module _ (z : ℤ) (f : SFits w32 z) where
  wide : SFits w64 z
  wide = sfits_widen tt f

  pub widened_fits : SFits w64 (to_z w32 (of_z w32 z))
  widened_fits = rw (to_z-of_z f) wide

  pub widened_back : to_z w64 (of_z w64 (to_z w32 (of_z w32 z))) ≡ z
  widened_back = rw (to_z-of_z f) (to_z-of_z wide)

  pub widened_low : dn z < 2 ^ 63
  widened_low = omega (arith, dn_fits w32 z f)
