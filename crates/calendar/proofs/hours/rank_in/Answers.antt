-- `calendar::hours::rank_in` meets its contract: its sum is that of the definition.
use Rattle.std.proofs.Common.{ℕ, ◌∙◌, min, ◌-◌, get_or, rules, arith}
use Rattle.std.proofs.lemmas.Iterator.{YieldsList-from_range, YieldsList-from_map}
use Rattle.std.proofs.lemmas.Iterator.Consumers.{sum_from_yields_List, fits_from_yields_list}
use Rattle.calendar.specs.Hours.{none}
use Rattle.calendar.specs.HoursLaws.{rank_bound}
use Rattle.calendar.specs.Steps.{rank_from}
use Rattle.calendar.proofs.hours.rank_in.Goals as goal

pub sum-requires-clause-fits : goal.sum-requires-clause-fits
sum-requires-clause-fits g c =
    let xs = g.P.Periods.list c.args.periods.now in
    let n = c.count.result in
    let m = c.args.m in
    fits_from_yields_list c.map.result _
    (YieldsList-from_map _ (λ (j : ℕ). min m (get_or xs j none).to - (get_or xs j none).from) (YieldsList-from_range 0 n n c.map.ensures.source (omega arith)) c.map.ensures.closure (λ x r q k. search rules))
    (omega (arith, rank_from xs m 0 n (omega (arith, c.count.ensures)), rank_bound xs m c.requires))

pub returns : goal.returns
returns g c =
    let xs = g.P.Periods.list c.args.periods.now in
    let n = c.count.result in
    let m = c.args.m in
    let e = sum_from_yields_List c.map.result c.sum.result c.sum.ensures.ran
    (YieldsList-from_map _ (λ (j : ℕ). min m (get_or xs j none).to - (get_or xs j none).from) (YieldsList-from_range 0 n n c.map.ensures.source (omega arith)) c.map.ensures.closure (λ x r q k. search rules))
    ∙ rank_from xs m 0 n (omega (arith, c.count.ensures)) in
    (e, omega (arith, e, rank_bound xs m c.requires))
