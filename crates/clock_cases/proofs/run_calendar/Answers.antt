-- `clock_cases::run_calendar` meets its contract.
use Rattle.std.proofs.Common.{sym}
use Rattle.clock_cases.proofs.run_calendar.Goals as goal

pub run_weeks-requires : goal.run_weeks-requires
run_weeks-requires g c = (c.requires, sym c.in-Ok.ensures.run)
