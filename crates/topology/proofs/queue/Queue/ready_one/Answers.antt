-- `topology::queue::Queue::ready_one` meets its contract.
use mathlib.Core.Path.{◌≡◌, refl, sym, ap, ◌∙◌}
use Prim.Native.Nat.{◌+◌}
use native.Mathlib.Omega.{arith}
use Rattle.memory.specs.State.{State}
use Rattle.memory.specs.Seen.{state}
use Rattle.memory.specs.Fields.{waiting}
use Rattle.topology.specs.Steps.{queued}
use Rattle.topology.specs.StepLaws.{readied_joins, readied_waits, tables_refl}
use Rattle.topology.proofs.queue.Queue.ready_one.Goals as goal

pub returns-then-act-gt0 : goal.returns-then-act-gt0
returns-then-act-gt0 c =
    let q = c.args.self.now in
    (sym (readied_waits (state q.tables.now) c.args.j q.end (omega (arith, c.act.ensures.0))), tables_refl q.tables)

pub put_act-requires : goal.put_act-requires
put_act-requires c = (omega arith, omega arith, omega (arith, c.args.self.now.short))

pub overflow_add-self : goal.overflow_add-self
overflow_add-self c = omega (arith, c.args.self.now.short)

pub returns : goal.returns
returns c =
    let q = c.args.self.now in
    let S = state q.tables.now in
    let z : S.act waiting c.args.j ≡ 0 = omega (arith, c.act.ensures.0) in
    (ap (λ (T : State). queued T (q.end + 1)) c.put_act.ensures.0 ∙ sym (readied_joins S c.args.j q.end z), record { same = c.put_act.ensures.1; lent = refl })
