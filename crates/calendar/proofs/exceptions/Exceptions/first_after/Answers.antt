-- `calendar::Exceptions::first_after` meets its contract: a record passed is of day `d` at most, and so are those before it.
use Rattle.std.proofs.Common.{rules, tests, arith, ◌+◌, ◌≤◌, ◌<◌}
use Rattle.std.proofs.lemmas.Iterator.{first_from_Range}
use Rattle.calendar.specs.Exceptions.{day_in}
use Rattle.calendar.proofs.Searches.{first_or_end, found_up}
use Rattle.calendar.proofs.exceptions.Exceptions.first_after.Goals as goal

pub returns : goal.returns
returns c =
    let a = c.args in
    let e = a.self.now in
    rw c.unwrap_or.ensures
    (first_or_end e.sheet.now e.at e.n (a.d + 1) c.find.result
    (found_up e.sheet.now e.at e.n (a.d + 1) e.listed.1 a.from e.n (omega arith) c.find.result
    (λ j l. omega (arith, c.requires.below j l))
    (first_from_Range (record { start = a.from; end = e.n }) _ _ c.find.result (λ i. a.d + 1 ≤ day_in e i) (λ i. day_in e i < a.d + 1) c.find.ensures.ran (λ x q k. search (rules, tests)) (λ x q k. (search (rules, tests), search (rules, tests))))))
