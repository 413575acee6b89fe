-- `judges::exception_after` meets its contract: the record before it is record i - 1.
use native.Mathlib.Omega.{arith}
use mathlib.Core.Path.{sym}
use Prim.Native.Nat.{◌-◌}
use Rattle.judges.specs.StepLaws.{exception_next}
use Rattle.judges.proofs.exception_after.Goals as goal

pub returns : goal.returns
returns c =
    let x = c.args in
    rw (
      c.no_work-2.ensures,
      c.no_work.ensures,
      c.exception_period-p.ensures,
      c.exception_period-before.ensures,
      c.exception_day-day.ensures.0,
      c.exception_day-last.ensures.0,
    )
    (sym (exception_next x.sheet.now x.at x.i (x.i - 1) (omega arith)))
