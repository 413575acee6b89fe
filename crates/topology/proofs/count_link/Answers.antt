-- `topology::count_link` meets its contract.
use mathlib.Core.Path.{ap, ◌∙◌}
use Prim.Native.Nat.{◌+◌}
use Rattle.memory.specs.State.{put_act}
use Rattle.memory.specs.Seen.{state}
use Rattle.memory.specs.Fields.{waiting}
use Rattle.topology.specs.Steps.{counted}
use Rattle.topology.proofs.count_link.Goals as goal

pub returns : goal.returns
unfolding counted
returns c =
    let x = c.args in
    let S = state x.tables.now in
    let e = c.link-i.ensures.0 in
    let n = c.act-n.ensures.0 ∙ ap (S.act waiting) e in
    (c.put_act.ensures.0 ∙ (λ z. put_act S waiting (e z) (n z + 1)), c.put_act.ensures.1)
