-- `calendar::Exceptions::first_past` meets its contract: a record passed is before day `d`, and so are those before it.
use Rattle.std.proofs.Common.{rules, tests, arith, Some, None, ◌+◌, ◌≤◌, ◌<◌}
use Rattle.std.proofs.lemmas.Iterator.{first_from_Range}
use Rattle.calendar.specs.Exceptions.{day_in}
use Rattle.calendar.proofs.Searches.{found_up}
use Rattle.calendar.proofs.exceptions.Exceptions.first_past.Goals as goal

pub returns-in-Some : goal.returns-in-Some
returns-in-Some c =
    let a = c.args in
    let e = a.self.now in
    found_up e.sheet.now e.at e.n a.d e.listed.1 (a.start + 1) c.min-end.result (omega (arith, c.min-end.ensures)) (Some c.in-Some.i)
    (λ j l. omega (arith, c.requires, e.listed.1 j a.start (omega arith) (omega arith)))
    (first_from_Range (record { start = a.start + 1; end = c.min-end.result }) _ _ (Some c.in-Some.i) (λ i. a.d ≤ day_in e i) (λ i. day_in e i < a.d) c.in-Some.ensures.ran (λ x q k. search (rules, tests)) (λ x q k. (search (rules, tests), search (rules, tests))))

pub first_between-requires : goal.first_between-requires
first_between-requires c =
    let a = c.args in
    let e = a.self.now in (
      omega (arith, c.min-end.ensures),
      omega arith,
      found_up e.sheet.now e.at e.n a.d e.listed.1 (a.start + 1) c.min-end.result (omega (arith, c.min-end.ensures)) None
          (λ j l. omega (arith, c.requires, e.listed.1 j a.start (omega arith) (omega arith)))
          (first_from_Range (record { start = a.start + 1; end = c.min-end.result }) _ _ None (λ i. a.d ≤ day_in e i) (λ i. day_in e i < a.d) c.in-None.ensures.ran (λ x q k. search (rules, tests)) (λ x q k. (search (rules, tests), search (rules, tests)))),
      λ j l m. absurd (omega arith),
    )
