-- `calendar::hours::next_in` meets its contract: its search is that of the definition.
use Rattle.std.proofs.Common.{ℕ, ◌∙◌, sym, ap, max, option_map, ltb, get_or, rules, tests, arith}
use Rattle.std.proofs.lemmas.Iterator.{YieldsList-from_range, YieldsList-from_map}
use Rattle.std.proofs.lemmas.Iterator.Adapters.{option_map_id}
use Rattle.std.proofs.lemmas.Iterator.Search.{find_from_yields_List}
use Rattle.calendar.specs.Hours.{none}
use Rattle.calendar.specs.declared.Period.{Period}
use Rattle.calendar.specs.Steps.{next_from, next_of}
use Rattle.calendar.proofs.hours.next_in.Goals as goal

pub returns : goal.returns
returns g c =
    let xs = g.P.Periods.list c.args.periods.now in
    let n = c.count.result in
    let m = c.args.m in
    next_of m c.find.result c.map-2.result _ c.map-2.ensures.cases (λ p k h. search rules)
    ∙ ap (option_map (λ (p : Period). max m p.from)) (sym (option_map_id c.find.result)
    ∙ find_from_yields_List (λ (p : Period). ltb m p.to) _ _ c.find.result c.find.ensures.ran
    (YieldsList-from_map _ (λ (j : ℕ). get_or xs j none) (YieldsList-from_range 0 n n c.map.ensures.source (omega arith)) c.map.ensures.closure (λ x r q k. search rules))
    (λ x b q k. (search (rules, tests), search (rules, tests))))
    ∙ next_from xs m 0 n (omega (arith, c.count.ensures))
