-- `calendar::hours::works_in` meets its contract: its search is that of the definition.
use Rattle.std.proofs.Common.{ℕ, refl, ◌∙◌, ltb, get_or, rules, tests, arith}
use Rattle.std.proofs.lemmas.Iterator.{YieldsList-from_range}
use Rattle.std.proofs.lemmas.Iterator.Search.{any_from_yields_List}
use Rattle.calendar.specs.Hours.{none}
use Rattle.calendar.specs.Steps.{works_from}
use Rattle.calendar.proofs.hours.works_in.Goals as goal

pub returns : goal.returns
returns g c =
    let xs = g.P.Periods.list c.args.periods.now in
    any_from_yields_List (λ (j : ℕ). ltb (get_or xs j none).from (get_or xs j none).to) _ _ _ c.any.ensures.ran (YieldsList-from_range {s = record { start = 0; end = c.count.result }} 0 c.count.result c.count.result refl (omega arith)) (λ x b q k. search (rules, tests))
    ∙ works_from xs 0 c.count.result (omega (arith, c.count.ensures))
