-- `ids::parent_loop_steps` meets its contract: k steps are made and lead to `up`.
use mathlib.Core.Path.{ap}
use native.Mathlib.Omega.{arith}
use Rattle.memory.specs.Seen.{state}
use Rattle.memory.specs.Fields.{parent}
use Rattle.memory.specs.Rows.{cell_of}
use Rattle.ids.specs.ClimbSteps.{climb_start, climb_none, climb_back, climb_turn, climb_end}
use Rattle.ids.proofs.parent_loop_steps.Goals as goal

pub loop-k-init : goal.loop-k-init
loop-k-init g c =
    let x = c.args in
    let up = (state (g.R.Reads.tables x.tables.now)).act parent in
    climb_start up (g.R.Reads.tables x.tables.now).activities x.i c.requires.1 (omega arith) _ c.row-up.ensures

pub returns-in_err-j : goal.returns-in_err-j
returns-in_err-j g c =
    let x = c.args in
    let up = (state (g.R.Reads.tables x.tables.now)).act parent in
    let L = c.loop-k in
    rw c.from_residual.ensures (climb_none up (g.R.Reads.tables x.tables.now).activities x.i _ L.k L.invariant (ap cell_of c.in_err-j.was), tt)

pub returns-then-j-i : goal.returns-then-j-i
returns-then-j-i g c =
    let x = c.args in
    let up = (state (g.R.Reads.tables x.tables.now)).act parent in
    let L = c.loop-k in
    (climb_back up (g.R.Reads.tables x.tables.now).activities x.i _ L.k L.invariant _ (ap cell_of c.in_ok-j.was) (omega arith) c.if-j-i.true, (omega arith, omega arith))

pub loop-k-preserved : goal.loop-k-preserved
loop-k-preserved g c =
    let x = c.args in
    let up = (state (g.R.Reads.tables x.tables.now)).act parent in
    let L = c.loop-k in
    climb_turn up (g.R.Reads.tables x.tables.now).activities x.i _ L.k L.invariant _ (ap cell_of c.in_ok-j.was) c.requires.1 (omega arith) c.if-j-i.false _ c.row-up-in-loop-k.ensures

pub returns : goal.returns
returns g c =
    let x = c.args in
    let up = (state (g.R.Reads.tables x.tables.now)).act parent in
    let L = c.loop-k in
    (climb_end up (g.R.Reads.tables x.tables.now).activities x.i _ L.k L.invariant (omega arith), tt)
