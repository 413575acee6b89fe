-- `clock::weeks::WeekSums::minutes_before` meets its contract: it is computed as it is defined, and stays small.
use mathlib.Core.Path.{sym}
use native.Mathlib.Omega.{arith}
use Rattle.date.specs.Days.{weekday}
use Rattle.clock.specs.RegularOrder.{regular_is, sum_small}
use Rattle.clock.proofs.weeks.WeekSums.minutes_before.Goals as goal

pub returns : goal.returns
returns c =
    let ss = c.args.self.now.entries in
    (sym (regular_is ss c.args.d), λ l. (sum_small ss c.args.self.now.rising c.args.d (weekday c.args.d) l (omega arith)).1)
