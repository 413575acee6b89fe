-- The casts of a signed local that was tested against 0: a local holds bits, and what the machine reads back is the number, `to_z w (of_z w z)`.
use Rattle.std.specs.Prelude.{◌≡◌, true, false, ◌^◌, ◌<◌, T, ℤ, pos, neg_ℤ, nat_abs, ◌-ℤ◌}
use Rattle.std.proofs.Common.{◌∙◌, arith, SFits, Fits, to_z, of_z, to_z-of_z}
use Rattle.std.specs.Int.Signed.{lt_z, le_z, non_neg}
use Rattle.std.specs.Int.{Width, w64}
use Rattle.number.specs.Zed.{up, dn}
use Rattle.number.specs.ZedLaws.{neg_up, neg_dn, neg_fits, up_fits, non_neg_of, abs_up, zero_minus, ge0, nge0, lt0, nlt0}

-- the tests `z >= 0` and `z < 0`
module _ {w : Width} (z : ℤ) (f : SFits w z) where
  pub if_ge0 : le_z (pos 0) (to_z w (of_z w z)) ≡ true → dn z ≡ 0
  if_ge0 t = ge0 z (rw (to_z-of_z f) at t)

  pub if_nge0 : le_z (pos 0) (to_z w (of_z w z)) ≡ false → up z ≡ 0
  if_nge0 t = nge0 z (rw (to_z-of_z f) at t)

  pub if_lt0 : lt_z (to_z w (of_z w z)) (pos 0) ≡ true → up z ≡ 0
  if_lt0 t = lt0 z (rw (to_z-of_z f) at t)

  pub if_nlt0 : lt_z (to_z w (of_z w z)) (pos 0) ≡ false → dn z ≡ 0
  if_nlt0 t = nlt0 z (rw (to_z-of_z f) at t)

  pub value_up : dn z ≡ 0 → nat_abs (to_z w (of_z w z)) ≡ up z
  value_up h = rw (to_z-of_z f) (abs_up z h)

-- `z as u64`
module _ (z : ℤ) (f : SFits w64 z) where
  pub cast_up : dn z ≡ 0 → T (non_neg (to_z w64 (of_z w64 z))) × Fits w64 (nat_abs (to_z w64 (of_z w64 z)))
  cast_up h = rw (to_z-of_z f, abs_up z h) (non_neg_of z h, record { fits = omega (arith, up_fits w64 z f) })

-- `(-z) as u64`
module _ (z : ℤ) (f : SFits w64 z) (b : dn z < 2 ^ 63) where
  pub minus_fits : SFits w64 (pos 0 -ℤ to_z w64 (of_z w64 z))
  minus_fits = rw (to_z-of_z f, zero_minus z) (neg_fits w64 z f b)

  pub minus_back : to_z w64 (of_z w64 (pos 0 -ℤ to_z w64 (of_z w64 z))) ≡ neg_ℤ z
  minus_back = to_z-of_z minus_fits ∙ rw (to_z-of_z f) (zero_minus z)

  pub cast_dn : up z ≡ 0 → T (non_neg (to_z w64 (of_z w64 (pos 0 -ℤ to_z w64 (of_z w64 z))))) × Fits w64 (nat_abs (to_z w64 (of_z w64 (pos 0 -ℤ to_z w64 (of_z w64 z)))))
  cast_dn h =
      let e : dn (neg_ℤ z) ≡ 0 = omega (arith, neg_dn z) in
      rw (minus_back, abs_up (neg_ℤ z) e) (non_neg_of (neg_ℤ z) e, record { fits = omega (arith, neg_up z) })

  pub value_dn : up z ≡ 0 → nat_abs (to_z w64 (of_z w64 (pos 0 -ℤ to_z w64 (of_z w64 z)))) ≡ dn z
  value_dn h =
      let e : dn (neg_ℤ z) ≡ 0 = omega (arith, neg_dn z) in
      rw minus_back (abs_up (neg_ℤ z) e ∙ neg_up z)
