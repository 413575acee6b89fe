-- `sheet_cases::build` is safe, and stays within the file and the sheet.
use Rattle.std.proofs.Common.{◌≤◌, length}
use Rattle.sheet_cases.proofs.build.Given as goal

abbrev pub invariant-loop : goal.invariant-loop
invariant-loop l = (length l.rest ≤ length l.file) × (l.size ≤ length l.sheet)
