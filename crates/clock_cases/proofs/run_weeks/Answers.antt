-- `clock_cases::run_weeks` meets its contract.
use Rattle.std.proofs.Common.{arith, sym}
use Rattle.sheet.specs.declared.runs.RecordKind.TheVariants.{Week}
use Rattle.sheet.specs.RunLaws.{run_counted}
use Rattle.clock_cases.proofs.run_weeks.Goals as goal

pub overflow_mul-from : goal.overflow_mul-from
overflow_mul-from g c =
    omega (arith, (run_counted c.args.file.now Week c.args.at c.args.w c.requires.0 c.requires.1).within)

pub overflow_add-from : goal.overflow_add-from
overflow_add-from g c =
    omega (arith, (run_counted c.args.file.now Week c.args.at c.args.w c.requires.0 c.requires.1).within)

pub read_run-requires : goal.read_run-requires
read_run-requires g c =
    (run_counted c.args.file.now Week c.args.at c.args.w c.requires.0 c.requires.1).within

pub run_week-requires : goal.run_week-requires
run_week-requires g c =
    let within = (run_counted c.args.file.now Week c.args.at c.args.w c.requires.0 c.requires.1).within in
    (omega arith, c.requires.0, within, c.requires.1, sym c.in-Ok.ensures.run)
