-- `calendar::Hours::works` meets its contract: a day that has E records is worked by them.
use Rattle.std.proofs.Common.{sym, ap, ◌∙◌, arith}
use Rattle.calendar.specs.Hours.{works}
use Rattle.calendar.specs.DayLaws.{of_records}
use Rattle.calendar.proofs.hours.Hours.works.Goals as goal

pub returns : goal.returns
returns c = c.works_in-2.ensures ∙ ap works (sym (of_records c.args.self.now (omega arith)))
