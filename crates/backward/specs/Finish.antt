-- The greatest early finish as a loop finds it.
use Rattle.std.specs.Prelude.{◌≡◌, Bool, true, false, ℕ, zero, suc, ◌+◌, ◌<◌, max, Option, None, Some}
use Rattle.number.specs.Bit.{bit}
use Rattle.memory.specs.State.{State}
use Rattle.memory.specs.Fields.{is_summary}
use Rattle.order.specs.Plan.{Plan}
use Rattle.order.specs.Ids.{summary}
use Rattle.passes.specs.Dates.{Early}

-- the memory's marks of the summaries
abbrev pub Marked : Plan → State → Type 0
Marked p S = (i : ℕ) → i < p.activities → S.act is_summary i ≡ bit (summary p i)

-- one more than the greatest, and 0 for none
abbrev pub past : Option ℕ → ℕ
past None = 0
past (Some t) = t + 1

-- one more than the greatest early finish so far, and 0 for none: on with activity i
abbrev pub onward : Bool → ℕ → ℕ → ℕ
onward true ef top = top
onward false ef top = max top (ef + 1)

-- of the first n activities
unfoldable pub greatest_one : Plan → Early → ℕ → ℕ
greatest_one p d zero = 0
greatest_one p d (suc n) = onward (summary p n) (d.ef n) (greatest_one p d n)
