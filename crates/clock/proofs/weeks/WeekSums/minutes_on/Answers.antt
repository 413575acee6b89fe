-- `clock::weeks::WeekSums::minutes_on` meets its contract: the sums of a weekday and of the next differ by the weekday's minutes.
use Prim.Native.Nat.{◌+◌}
use native.Mathlib.Omega.{arith}
use Rattle.date.specs.Days.{weekday}
use Rattle.clock.specs.RegularOrder.{regular_is, regular_end}
use Rattle.clock.proofs.weeks.WeekSums.minutes_on.Goals as goal

pub returns : goal.returns
returns c =
    let ss = c.args.self.now.entries in
    let up = c.args.self.now.rising in
    let k = weekday c.args.d in
    (omega (arith, regular_is ss c.args.d, regular_end ss up c.args.self.now.none c.args.d, up.0 k (k + 1) (omega arith) (omega arith)), omega (arith, up.0 (k + 1) 7 (omega arith) (omega arith), up.1))
