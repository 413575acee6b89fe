-- Counting the links of a slice one after another: the counts with one more, and what it is that the first links are counted.
use Rattle.std.specs.Prelude.{◌≡◌, List, ℕ, ◌+◌, ◌<◌, length, get_or, set, take}
use Rattle.network.specs.Links.{Link, no_link}
use Rattle.network.specs.Kahn.{into}

-- where link k leads
abbrev pub leads_to : List Link → ℕ → ℕ
leads_to ls k = (get_or ls k no_link).to

-- the counts with one more at `to`: as they were where it has none
abbrev pub one_more : List ℕ → ℕ → List ℕ
one_more cs to = set cs to (get_or cs to 0 + 1)

-- the first k links are counted
abbrev pub Counted : List Link → ℕ → List ℕ → Type 0
Counted ls k cs = (i : ℕ) → i < length cs → get_or cs i 0 ≡ into (take k ls) i
