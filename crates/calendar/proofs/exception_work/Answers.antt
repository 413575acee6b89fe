-- `calendar::exception_work` meets its contract: what the period has before the day's end.
use native.Mathlib.Omega.{arith}
use mathlib.Core.Path.{ap, ◌∙◌}
use Prim.Native.Nat.{◌-◌, min}
use Rattle.calendar.specs.declared.Period.{Period}
use Rattle.calendar.proofs.exception_work.Goals as goal

pub returns : goal.returns
returns c =
    let e = c.period_rank.ensures in
    (e ∙ ap (λ (p : Period). min 1440 p.to - p.from) c.exception_period-p.ensures, omega (arith, e))
