-- `checks::open_ends` meets its contract: the activities that pass are the open ends.
use Rattle.std.proofs.Common.{◌∙◌, rules, tests, arith}
use Rattle.std.proofs.lemmas.Iterator.{YieldsList-from_range}
use Rattle.std.proofs.lemmas.Iterator.Consumers.{YieldsList-from_filter, count_from_yields_List}
use Rattle.order.specs.Plan.{plan_of, plan_in}
use Rattle.order.specs.Ties.{is_open}
use Rattle.order.proofs.OpenLaws.{open_le}
use Rattle.checks.specs.OpenCount.{open_filtered}
use Rattle.checks.proofs.open_ends.Goals as goal

pub returns : goal.returns
unfolding plan_of
returns c =
    let x = c.args.sheet.now in
    let n = x.contents.activities in
    let e =
    count_from_yields_List _ _ c.count.ensures.ran
    (YieldsList-from_filter _ (is_open (plan_in x)) (YieldsList-from_range 0 n n c.filter.ensures.source (omega arith)) c.filter.ensures.closure (λ y b q h. search (rules, tests)))
    ∙ open_filtered (plan_in x) n in
    (e, omega (arith, e, open_le (plan_in x) n))
