-- What bytes below 256 bound, and that the two readings of a signed number agree.
use Rattle.std.specs.Prelude.{◌≡◌, refl, Bool, true, false, List, ℕ, suc, ◌+◌, ◌-◌, ◌%◌, ◌^◌, ◌≤◌, ◌<◌, ltb, ℤ, pos, negsuc}
use native.Mathlib.Omega.{arith}
use Rattle.std.proofs.Common.{ap, ltb-true, ltb-false}
use mir.Val.{sel}
use Rattle.std.specs.Int.{cast_signed, w32}
use Rattle.number.specs.Zed.{up, dn}
use Rattle.number.specs.Bytes.{byte_at, u16_at, u32_at, signed32, i32_at, biased_at}

module _ (s : List ℕ) (at : ℕ) (bytes : (k : ℕ) → byte_at s k < 256) where
  pub u16_below : u16_at s at < 2 ^ 16
  unfolding u16_at
  u16_below = omega (arith, bytes at, bytes (at + 1))

  pub u32_below : u32_at s at < 2 ^ 32
  unfolding u32_at
  u32_below = omega (arith, bytes at, bytes (at + 1), bytes (at + 2), bytes (at + 3))

  pub biased_below : biased_at s at < 2 ^ 32
  unfolding biased_at
  biased_below = omega arith

-- two's complement as std says it
pub signed32_is : (n : ℕ) → cast_signed w32 n ≡ signed32 n
unfolding signed32
signed32_is n = go (ltb n (2 ^ 31))
  where
    go : (t : Bool) → sel t (pos n) (negsuc (2 ^ 32 - suc n)) ≡ elim t [ true ↦ pos n | false ↦ negsuc (2 ^ 32 - 1 - n) ]
    go true = refl
    go false = ap negsuc (omega arith)

-- the signed number and 2 ^ 31 are the biased one
pub signed32_biased : (n : ℕ) → n < 2 ^ 32 → up (signed32 n) + 2 ^ 31 ≡ (n + 2 ^ 31) % 2 ^ 32 + dn (signed32 n)
unfolding signed32
signed32_biased n h = by (ltb n (2 ^ 31)) (ltb-true n (2 ^ 31)) (ltb-false n (2 ^ 31))
  where
    by : (t : Bool) → (t ≡ true → n < 2 ^ 31) → (t ≡ false → 2 ^ 31 ≤ n) → let z : ℤ = elim t [ true ↦ pos n | false ↦ negsuc (2 ^ 32 - 1 - n) ] in up z + 2 ^ 31 ≡ (n + 2 ^ 31) % 2 ^ 32 + dn z
    by true y z = let k = y refl in omega arith
    by false y z = let k = z refl in omega arith

pub i32_biased : (s : List ℕ) (at : ℕ) → u32_at s at < 2 ^ 32 → up (i32_at s at) + 2 ^ 31 ≡ biased_at s at + dn (i32_at s at)
unfolding i32_at biased_at
i32_biased s at h = signed32_biased (u32_at s at) h
