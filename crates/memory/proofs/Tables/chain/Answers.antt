-- `memory::Tables::chain` meets its contract.
use mathlib.Core.Path.{sym, subst, ◌∙◌}
use Rattle.std.proofs.Common.{rules}
use Rattle.memory.specs.Seen.{state}
use Rattle.memory.specs.Chains.{linked_from, Chains}
use Rattle.memory.specs.ChainsLaws.{chains}
use Rattle.memory.proofs.Tables.chain.Goals as goal

pub returns : goal.returns
returns c =
    let x = c.args in
    let p = c.requires in
    let S = state x.self.now in
    let a = x.self.now.activities in
    let e = c.chain_links.ensures.0 ∙ (λ z. linked_from x.key x.head x.next (c.fill_act.ensures.1.kept z) 0 (c.fill_act.ensures.0 z)) in
    (e, subst (Chains x.key x.head x.next a x.self.now.kept S) (sym e) (chains x.key x.head x.next a x.self.now.kept p.3 S p.4), search rules)
