-- The rows of the memory give what the definition shows, one after the other.
use Prim.Native.Nat.{ℕ}
use Rattle.passes.specs.Dates.{Pass, leaves, after, put}
use Rattle.results.specs.declared.Shown.{Shown}

-- ---- one row after the other
-- what is shown of activity i is put beside what is shown of those before it
abbrev pub shown_next : Pass Shown → (ℕ → Shown) → ℕ → Pass (ℕ → Shown)
shown_next x f i = after x (λ y. leaves (put f i y))
