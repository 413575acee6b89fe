-- `memory::Tables::chain_one` meets its contract.
use mathlib.Core.Path.{ap, ◌∙◌}
use Rattle.std.proofs.Common.{rules}
use Rattle.memory.specs.State.{State, put_act, put_link}
use Rattle.memory.specs.Seen.{state}
use Rattle.memory.specs.Chains.{linked}
use Rattle.memory.proofs.Tables.chain_one.Goals as goal

pub returns : goal.returns
unfolding linked
returns c =
    let x = c.args in
    let s = x.self.now in
    let S = state s in
    let i = c.link-i in
    let e = i.ensures.0 in
    let h = c.act-first.ensures.0 ∙ ap (S.act x.head) e in
    (c.put_act.ensures.0 ∙ ap (λ (T : State). put_act T x.head i.result x.k) c.put_link.ensures.0 ∙ (λ z. put_act (put_link S x.next x.k (h z)) x.head (e z) x.k), search rules)
