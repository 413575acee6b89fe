-- `calendar::week_period` meets its contract, field by field.
use Rattle.std.proofs.Common.{ap, ◌∙◌, arith}
use Rattle.number.specs.Bytes.{u16_at}
use Rattle.calendar.proofs.week_period.Goals as goal

pub returns : goal.returns
returns c =
    let e = c.read_period.ensures in
    let to = e.1 ∙ ap (u16_at c.args.sheet.now) (omega arith) in
    λ i. record { from = e.0 i; to = to i }
