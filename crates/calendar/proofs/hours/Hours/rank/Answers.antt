-- `calendar::Hours::rank` meets its contract: no minute is worked before the day's first.
use mathlib.Core.Path.{ap, sym, ◌∙◌}
use native.Mathlib.Omega.{arith}
use Rattle.calendar.specs.Hours.{rank}
use Rattle.calendar.specs.HoursLaws.{rank_none}
use Rattle.calendar.specs.Records.{periods_of}
use Rattle.calendar.proofs.hours.Hours.rank.Goals as goal

pub returns-then-m-eq0 : goal.returns-then-m-eq0
returns-then-m-eq0 c =
    let ps = periods_of c.args.self.now in
    (sym (ap (rank ps) c.if-m-eq0.true ∙ rank_none 0 ps 0 c.requires (omega arith)), omega arith)
