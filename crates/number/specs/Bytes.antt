-- Little-endian numbers in a list of bytes.
use Rattle.std.specs.Prelude.{true, false, List, ℕ, ◌+◌, ◌-◌, ◌*◌, ◌%◌, ◌^◌, ltb, ℤ, pos, negsuc, get_or}

-- the byte at a place, 0 past the end
abbrev pub byte_at : List ℕ → ℕ → ℕ
byte_at s at = get_or s at 0

unfoldable pub u16_at : List ℕ → ℕ → ℕ
u16_at s at = byte_at s at + 256 * byte_at s (at + 1)

unfoldable pub u32_at : List ℕ → ℕ → ℕ
u32_at s at = byte_at s at + 256 * byte_at s (at + 1) + 65536 * byte_at s (at + 2) + 16777216 * byte_at s (at + 3)

-- two's complement of 32 bits
unfoldable pub signed32 : ℕ → ℤ
signed32 n = elim (ltb n (2 ^ 31)) [ true ↦ pos n | false ↦ negsuc (2 ^ 32 - 1 - n) ]

unfoldable pub i32_at : List ℕ → ℕ → ℤ
i32_at s at = signed32 (u32_at s at)

-- the signed number and 2 ^ 31: the same order on natural numbers, where a day counts from the first that an i32 can name
unfoldable pub biased_at : List ℕ → ℕ → ℕ
biased_at s at = (u32_at s at + 2 ^ 31) % 2 ^ 32
