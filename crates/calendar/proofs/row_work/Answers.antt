-- `calendar::row_work` meets its contract: its sum is that of the definition.
use Rattle.std.proofs.Common.{◌∙◌, ◌-◌, rules, arith}
use Rattle.std.proofs.lemmas.Iterator.{YieldsList-from_slice, YieldsList-from_map}
use Rattle.std.proofs.lemmas.Iterator.Consumers.{sum_from_yields_List, fits_from_yields_list}
use Rattle.calendar.specs.declared.Period.{Period}
use Rattle.calendar.specs.HoursLaws.{rank_bound}
use Rattle.calendar.specs.Steps.{work_from}
use Rattle.calendar.proofs.row_work.Goals as goal

pub sum-requires-clause-fits : goal.sum-requires-clause-fits
sum-requires-clause-fits c =
    let row = c.args.row in
    fits_from_yields_list c.map.result _
    (YieldsList-from_map _ (λ (p : Period). p.to - p.from) (YieldsList-from_slice row cc) c.map.ensures.closure (λ x r q k. (search rules, search rules)))
    (omega (arith, work_from row c.requires, rank_bound row 1440 c.requires))

pub returns : goal.returns
returns c =
    let row = c.args.row in
    let e = sum_from_yields_List c.map.result c.sum.result c.sum.ensures.ran
    (YieldsList-from_map _ (λ (p : Period). p.to - p.from) (YieldsList-from_slice row cc) c.map.ensures.closure (λ x r q k. (search rules, search rules)))
    ∙ work_from row c.requires in
    (e, omega (arith, e, rank_bound row 1440 c.requires))
