-- `topology::first_waiting` meets its contract: its search is that of the definition.
use Rattle.std.proofs.Common.{ℕ, refl, ltb, rules, tests, arith}
use Rattle.std.proofs.lemmas.Iterator.{YieldsList-from_range}
use Rattle.std.proofs.lemmas.Iterator.Search.{find_from_yields_List}
use Rattle.memory.specs.Seen.{state}
use Rattle.memory.specs.Fields.{waiting}
use Rattle.topology.specs.LoopLaws.{first_found}
use Rattle.topology.proofs.first_waiting.Goals as goal

pub returns : goal.returns
returns c =
    let n = c.args.tables.now.activities in
    let w = (state c.args.tables.now).act waiting in
    first_found w n c.find.result
    (find_from_yields_List (λ (j : ℕ). ltb 0 (w j)) _ _ c.find.result c.find.ensures.ran (YieldsList-from_range {s = record { start = 0; end = n }} 0 n n refl (omega arith)) (λ x b q k. search (rules, tests)))
