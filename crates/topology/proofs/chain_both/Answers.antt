-- `topology::chain_both` meets its contract: each chain is by its own key.
use Rattle.memory.specs.Seen.{state}
use Rattle.memory.specs.SeenLaws.{same_then, sized_back}
use Rattle.memory.specs.Chains.{Chains}
use Rattle.memory.specs.Fields.{from_field, first_out, next_out}
use Rattle.topology.specs.OrderLaws.{both_in, both_frame}
use Rattle.topology.proofs.chain_both.Goals as goal

pub returns : goal.returns
returns c =
    let C = c.chain.ensures in
    let D = c.chain-2.ensures in
    let E = sized_back C.2 (λ n k. Chains from_field first_out next_out n k (state c.chain.new.self) (state c.chain-2.new.self)) D.1 in
    (both_in C.1 E, E.chained, both_frame C.1 E, same_then C.2 D.2)
