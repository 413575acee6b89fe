-- `sched::c::neakspuoy_schedule` meets its contract.
use mathlib.Core.Path.{ap, ◌∙◌}
use mathlib.Core.List.{List, ◌++◌}
use native.Mathlib.Omega.{arith}
use lib.IntN.{ℤ}
use lib.ListN.{drop}
use Rattle.sched.proofs.InCLaws.{called_short, called_whole}
use Rattle.sched.proofs.c.neakspuoy_schedule.Goals as goal

pub returns-then-answer-lt5 : goal.returns-then-answer-lt5
returns-then-answer-lt5 c = let x = c.args in called_short x.sheet.now (record { results = x.results.now; names = x.names.now; work = x.work.now }) x.answer.now (omega (arith, c.if-answer-lt5.true))

pub returns : goal.returns
returns c =
    let x = c.args in
    let call = c.schedule-r in
    called_whole x.sheet.now (record { results = x.results.now; names = x.names.now; work = x.work.now }) x.answer.now call.result call.new.results call.new.names call.new.work
    _ (omega (arith, c.if-answer-lt5.false)) call.ensures (ap (λ (zs : List ℤ). zs ++ drop 5 x.answer.now) (c.copy_from_slice.ensures.after ∙ c.numbers_of.ensures))
