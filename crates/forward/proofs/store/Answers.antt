-- `forward::store` meets its contract: the three puts, one after the other. The fields stand as numbers, as the calls have them, so that a refusal names the value that differs.
use mathlib.Core.Path.{ap, ◌∙◌}
use Rattle.memory.specs.State.{State, put_act}
use Rattle.memory.specs.SeenLaws.{same_then}
use Rattle.forward.proofs.store.Goals as goal

pub returns : goal.returns
returns c =
    let x = c.args in
    let p1 = c.put_act.ensures in
    let p2 = c.put_act-2.ensures in
    let p3 = c.put_act-3.ensures in
    let finished = p2.0 ∙ ap (λ (S : State). put_act S 13 x.i x.placed.finish) p1.0 in
    (p3.0 ∙ ap (λ (S : State). put_act S 14 x.i x.placed.left) finished, same_then p1.1 (same_then p2.1 p3.1))
