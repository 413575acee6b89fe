-- `check_cases::answer` is safe and ends: what `sheet::read` has read is known.
use Rattle.std.proofs.Common.{sym}
use Rattle.sheet.specs.ReadLaws.{read_known}
use Rattle.check_cases.proofs.answer.Goals as goal

pub new-requires : goal.new-requires
new-requires g c = read_known c.args.sheet.now c.in-Ok.contents (sym c.in-Ok.ensures)
