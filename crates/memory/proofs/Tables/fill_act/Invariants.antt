-- `memory::Tables::fill_act` meets its contract: after i turns the first i rows are filled.
use mathlib.Core.Path.{◌≡◌}
use Rattle.memory.specs.State.{fill_act}
use Rattle.memory.specs.Seen.{state, SameSlice}
use Rattle.memory.proofs.Tables.fill_act.Given as goal

abbrev pub invariant-loop-i : goal.invariant-loop-i
invariant-loop-i l = SameSlice l.initial.self l.self × (state l.self ≡ fill_act (state l.initial.self) l.f l.i l.v)
