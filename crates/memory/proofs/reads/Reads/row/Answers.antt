-- `memory::Reads::row` meets its contract: the cell is one more than the row, and 0 where there is none.
use Rattle.std.proofs.Common.{◌≡◌, ℕ, ◌-◌, ◌≤◌, ◌∙◌, arith}
use Rattle.std.specs.Prelude.{Option, Some, None}
use Rattle.std.specs.Option.{SomeIff}
use Rattle.memory.specs.Rows.{cell_of}
use Rattle.memory.proofs.reads.Reads.row.Goals as goal

one_more : (row : Option ℕ) (n : ℕ) → SomeIff row (1 ≤ n) (n - 1) → cell_of row ≡ n
one_more (Some i) n h = omega arith
one_more None n h = omega arith

pub returns : goal.returns
returns g c = one_more c.checked_sub.result c.act.result c.checked_sub.ensures ∙ c.act.ensures.0
