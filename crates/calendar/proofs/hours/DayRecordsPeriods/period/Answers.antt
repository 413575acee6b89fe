-- `calendar::hours::DayRecordsPeriods::period` meets its contract. It reads the record.
use Rattle.std.proofs.Common.{◌∙◌, sym, arith}
use Rattle.calendar.specs.DayLaws.{records_length, records_get}
use Rattle.calendar.proofs.hours.DayRecordsPeriods.period.Goals as goal

pub exception_period-requires : goal.exception_period-requires
exception_period-requires c =
    let e = c.args.self.now in
    omega (arith, c.type_inv.self, c.requires, records_length e.sheet.now e.at e.n)

pub returns : goal.returns
returns c =
    let e = c.args.self.now in
    c.exception_period.ensures ∙ sym (records_get e.sheet.now e.at e.n c.args.i (omega (arith, c.requires, records_length e.sheet.now e.at e.n)))
