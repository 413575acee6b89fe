-- `calendar::hours::select_in` meets its contract. What is left is selected in the periods that are left.
use Rattle.std.proofs.Common.{arith}
use Rattle.calendar.specs.Steps.{select_here, select_skip, select_end}
use Rattle.calendar.specs.HoursLaws.{select_day}
use Rattle.calendar.proofs.hours.select_in.Goals as goal

pub returns-then-left-length : goal.returns-then-left-length
returns-then-left-length g c =
    let p = c.requires in
    let s = select_day _ _ p.0 p.1 p.2 in
    let e = select_here _ c.loop-i.i _ _ c.loop-i.invariant _ c.period-p.ensures (omega (arith, c.count-i-end.ensures)) (omega (arith, c.period_length-length.ensures)) in
    (e, omega (arith, e, s), omega (arith, e, s))

pub loop-i-preserved : goal.loop-i-preserved
loop-i-preserved g c =
    rw c.period_length-length.ensures
    (select_skip _ c.loop-i.i _ _ c.loop-i.invariant _ c.period-p.ensures (omega (arith, c.count-i-end.ensures)) (omega (arith, c.period_length-length.ensures)))

pub returns : goal.returns
returns g c =
    let p = c.requires in
    let s = select_day _ _ p.0 p.1 p.2 in
    let e = select_end _ c.loop-i.i _ _ c.loop-i.invariant (omega (arith, c.count-i-end.ensures)) in
    (e, omega (arith, e, s), omega arith)
