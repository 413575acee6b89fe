-- `memory::Reads::act` meets its contract.
use mathlib.Core.Path.{sym, ◌∙◌}
use mir.Facts.{to_z-of_z}
use Rattle.memory.specs.Seen.{state}
use Rattle.memory.specs.StateLaws.{act_up}
use Rattle.memory.proofs.reads.Reads.act.Goals as goal

pub returns : goal.returns
unfolding state
returns g c =
    let a = c.act_signed in
    let x = c.args in
    let s = g.Self.Reads.tables x.self.now in
    let e = rw (to_z-of_z (record { sfits = a.type_inv }), a.ensures) at c.upward.ensures.0 in
    (e ∙ sym (act_up s.activities s.links s.cells.now x.f x.i), c.upward.ensures.1)
