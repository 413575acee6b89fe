-- `clock_cases::run_week` meets its contract: records that were counted make a valid calendar.
use Rattle.std.proofs.Common.{arith}
use Rattle.calendar.specs.ValidLaws.{clock_valid}
use Rattle.sheet.specs.declared.runs.RecordKind.TheVariants.{Week, Exception}
use Rattle.sheet.specs.RunLaws.{run_counted}
use Rattle.sheet.specs.ValidLaws.{week_few, read_valid}
use Rattle.clock_cases.proofs.run_week.Goals as goal

pub overflow_mul-end : goal.overflow_mul-end
overflow_mul-end g c =
    omega (arith, (run_counted c.args.file.now Exception c.args.from c.args.e c.requires.2 c.requires.4).within)

pub overflow_add-end : goal.overflow_add-end
overflow_add-end g c =
    omega (arith, (run_counted c.args.file.now Exception c.args.from c.args.e c.requires.2 c.requires.4).within)

pub new-calendar-requires : goal.new-calendar-requires
new-calendar-requires g c =
    let l = (run_counted c.args.file.now Exception c.args.from c.args.e c.requires.2 c.requires.4).within in
    rw c.round_the_clock-week.ensures (clock_valid _ _ l)

pub run_cases-ran-requires : goal.run_cases-ran-requires
run_cases-ran-requires g c = (run_counted c.args.file.now Exception c.args.from c.args.e c.requires.2 c.requires.4).within

pub read_week-week-requires : goal.read_week-week-requires
read_week-week-requires g c =
    let weeks = run_counted c.args.file.now Week c.args.at c.args.w c.requires.1 c.requires.3 in
    (weeks.within, λ k l. week_few _ _ _ weeks k)

pub new-calendar-requires-2 : goal.new-calendar-requires-2
new-calendar-requires-2 g c =
    let weeks = run_counted c.args.file.now Week c.args.at c.args.w c.requires.1 c.requires.3 in
    let exceptions = run_counted c.args.file.now Exception c.args.from c.args.e c.requires.2 c.requires.4 in
    rw c.read_week-week.ensures (read_valid _ _ _ _ _ weeks exceptions)

pub run_cases-ran-requires-2 : goal.run_cases-ran-requires-2
run_cases-ran-requires-2 g c = (run_counted c.args.file.now Exception c.args.from c.args.e c.requires.2 c.requires.4).within
