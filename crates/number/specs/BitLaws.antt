-- A test as a number: what the number tells of the test.
use Rattle.std.specs.Prelude.{◌≡◌, refl, Bool, true, false, ◌≢◌, ℕ, ◌≤◌, eqb, ltb}
use Rattle.std.proofs.Common.{ap, arith}
use Rattle.number.specs.Bit.{bit}

pub bit_le : (b : Bool) → bit b ≤ 1
bit_le true = omega arith
bit_le false = omega arith

-- ---- a mark m of the test b
pub mark_none : (b : Bool) {m : ℕ} → m ≡ bit b → m ≡ 0 → b ≡ false
mark_none true e z = absurd (omega arith)
mark_none false e z = refl

pub mark_some : (b : Bool) {m : ℕ} → m ≡ bit b → m ≢ 0 → b ≡ true
mark_some true e n = refl
mark_some false e n = absurd (n e)

pub mark_flag : (b : Bool) {m : ℕ} → m ≡ bit b → ltb 0 m ≡ b
mark_flag true e = ap (ltb 0) e
mark_flag false e = ap (ltb 0) e

pub mark_is : (b : Bool) {m : ℕ} → m ≡ bit b → eqb m 1 ≡ b
mark_is true e = ap (λ (x : ℕ). eqb x 1) e
mark_is false e = ap (λ (x : ℕ). eqb x 1) e
