-- Signed numbers: the smaller and the larger of two, a number held between two, and 01's shares and whole days.
use Rattle.std.specs.Prelude.{true, false, ℕ, max, ℤ, pos, negsuc, ◌*ℤ◌}
use Rattle.std.specs.Int.Signed.{lt_z, quot_z}

unfoldable pub min_z : ℤ → ℤ → ℤ
min_z a b = elim (lt_z b a) [ true ↦ b | false ↦ a ]

unfoldable pub max_z : ℤ → ℤ → ℤ
max_z a b = elim (lt_z a b) [ true ↦ b | false ↦ a ]

-- z, or the end of lo to hi that it lies beyond
unfoldable pub clamp_z : ℤ → ℤ → ℤ → ℤ
clamp_z z lo hi = elim (lt_z z lo) [ true ↦ lo | false ↦ elim (lt_z hi z) [ true ↦ hi | false ↦ z ] ]

-- "Percent is in hundredths of one percent", "clamped to ±1,000,000"; "A percent lag [is] divided toward zero."
unfoldable pub percent_of : ℤ → ℤ → ℤ
percent_of duration share = quot_z (duration *ℤ clamp_z share (negsuc 999999) (pos 1000000)) (pos 10000)

-- "a float in days [is] divided toward zero": minutes by the day length, which counts as 1 where it is 0
unfoldable pub whole_days : ℤ → ℕ → ℤ
whole_days minutes day_length = quot_z minutes (pos (max day_length 1))
