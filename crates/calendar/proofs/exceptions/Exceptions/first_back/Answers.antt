-- `calendar::Exceptions::first_back` meets its contract: a record passed is of day `d` or later, and so are those after it.
use Rattle.std.proofs.Common.{rules, tests, arith, ◌≤◌, ◌<◌}
use Rattle.calendar.specs.Exceptions.{day_in}
use Rattle.calendar.proofs.RangesBack.{last_from_Range}
use Rattle.calendar.proofs.Searches.{after_or_start, found_down}
use Rattle.calendar.proofs.exceptions.Exceptions.first_back.Goals as goal

pub returns : goal.returns
returns c =
    let a = c.args in
    let e = a.self.now in
    after_or_start e.sheet.now e.at e.n a.d c.find.result c.map_or.result _ c.map_or.ensures (λ i p. search rules)
    (found_down e.sheet.now e.at e.n a.d e.listed.1 0 a.to c.requires.within c.find.result
    (λ j l m. omega (arith, c.requires.above j l m))
    (last_from_Range c.rev.result _ _ 0 a.to c.rev.ensures.source c.find.result (λ i. day_in e i < a.d) (λ i. a.d ≤ day_in e i) c.find.ensures.ran (λ x q k. search (rules, tests)) (λ x q k. (search (rules, tests), search (rules, tests)))))
