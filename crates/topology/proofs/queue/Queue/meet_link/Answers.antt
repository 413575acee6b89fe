-- `topology::queue::Queue::meet_link` meets its contract.
use mathlib.Core.Path.{ap, ◌∙◌}
use Prim.Native.Nat.{◌-◌}
use Rattle.memory.specs.State.{State, put_act}
use Rattle.memory.specs.Seen.{state}
use Rattle.memory.specs.Fields.{waiting}
use Rattle.topology.specs.Steps.{queued, readied, met}
use Rattle.memory.specs.SeenLaws.{same_then}
use Rattle.topology.proofs.queue.Queue.meet_link.Goals as goal

pub returns : goal.returns
unfolding met
returns c =
    let q = c.args.self.now in
    let S = state q.tables.now in
    let j = c.link-j.result in
    let e = c.link-j.ensures.0 in
    let n = c.act-w.ensures.0 ∙ ap (S.act waiting) e in
    let f = c.ready_one.ensures in
    (f.0 ∙ ap (λ (T : State). readied (queued T q.end) j) c.put_act.ensures.0 ∙ (λ z. readied (queued (put_act S waiting (e z) (n z - 1)) q.end) (e z)), record { same = same_then c.put_act.ensures.1 f.1.same; lent = f.1.lent })
