-- `calendar::Exceptions::first_up_to` meets its contract: a record passed is of day `d` or later, and so are those after it.
use Rattle.std.proofs.Common.{rules, tests, arith, Some, None, ◌≤◌, ◌<◌}
use Rattle.calendar.specs.Exceptions.{day_in}
use Rattle.calendar.proofs.RangesBack.{last_from_Range}
use Rattle.calendar.proofs.Searches.{found_down}
use Rattle.calendar.proofs.exceptions.Exceptions.first_up_to.Goals as goal

pub returns-in-Some : goal.returns-in-Some
returns-in-Some c =
    let a = c.args in
    let e = a.self.now in
    found_down e.sheet.now e.at e.n a.d e.listed.1 c.saturating_sub-end.result a.start (omega (arith, c.requires)) (Some c.in-Some.i)
    (λ j l m. omega (arith, c.requires, e.listed.1 a.start j l m))
    (last_from_Range c.rev.result _ _ c.saturating_sub-end.result a.start c.rev.ensures.source (Some c.in-Some.i) (λ i. day_in e i < a.d) (λ i. a.d ≤ day_in e i) c.in-Some.ensures.ran (λ x q k. search (rules, tests)) (λ x q k. (search (rules, tests), search (rules, tests))))

pub overflow_add-result : goal.overflow_add-result
overflow_add-result c = omega (arith, (returns-in-Some c).within)

pub first_between-requires : goal.first_between-requires
first_between-requires c =
    let a = c.args in
    let e = a.self.now in (
      omega arith,
      omega (arith, c.requires, c.saturating_sub-end.ensures),
      λ j l. absurd (omega arith),
      found_down e.sheet.now e.at e.n a.d e.listed.1 c.saturating_sub-end.result a.start (omega (arith, c.requires)) None
          (λ j l m. omega (arith, c.requires, e.listed.1 a.start j l m))
          (last_from_Range c.rev.result _ _ c.saturating_sub-end.result a.start c.rev.ensures.source None (λ i. day_in e i < a.d) (λ i. a.d ≤ day_in e i) c.in-None.ensures.ran (λ x q k. search (rules, tests)) (λ x q k. (search (rules, tests), search (rules, tests)))),
    )
