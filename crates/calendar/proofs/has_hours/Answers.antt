-- `calendar::has_hours` meets its contract: its search is that of the definition.
use Rattle.std.proofs.Common.{◌∙◌, rules, tests}
use Rattle.std.proofs.lemmas.Iterator.{YieldsList-from_slice}
use Rattle.std.proofs.lemmas.Iterator.Search.{any_from_yields_List}
use Rattle.calendar.specs.Hours.{works}
use Rattle.calendar.specs.WeekLaws.{weekly_any}
use Rattle.calendar.proofs.has_hours.Goals as goal

pub returns : goal.returns
returns c =
    any_from_yields_List works _ _ _ c.any.ensures.ran (YieldsList-from_slice c.args.week cc) (λ x b q k. search (rules, tests)) ∙ weekly_any c.args.week
