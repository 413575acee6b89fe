-- `clock::weeks::WeekSums::regular_work` meets its contract: what is taken away is no more than what it is taken from.
use Prim.Native.Nat.{◌+◌, ◌%◌}
use native.Mathlib.Omega.{arith}
use Rattle.clock.specs.RegularLaws.{between_small, between_low, between_regular}
use Rattle.clock.proofs.weeks.WeekSums.regular_work.Goals as goal

pub overflow_mul-result : goal.overflow_mul-result
overflow_mul-result c =
    let ss = c.args.self.now.entries in
    omega (arith, c.requires, between_small ss c.args.d c.args.e c.args.self.now.rising c.requires.0)

pub overflow_add-result-4 : goal.overflow_add-result-4
overflow_add-result-4 c =
    let ss = c.args.self.now.entries in
    let up = c.args.self.now.rising in
    omega (arith, c.requires, between_small ss c.args.d c.args.e up c.requires.0, up.0 ((c.args.e + 1) % 7) 7 (omega arith) (omega arith), up.1)

pub overflow_sub-result-2 : goal.overflow_sub-result-2
overflow_sub-result-2 c = between_low c.args.self.now.entries c.args.d c.args.e c.args.self.now.rising c.requires.0

pub returns : goal.returns
returns c = between_regular c.args.self.now.entries c.args.d c.args.e c.args.self.now.rising c.requires.0
