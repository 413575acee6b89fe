-- `sheet_cases::answer_all` is safe and ends: each sheet takes two bytes of the file at least.
use Rattle.std.proofs.Common.{◌+◌, ◌≤◌, length}
use Rattle.sheet_cases.proofs.answer_all.Given as goal

abbrev pub invariant-loop-rest : goal.invariant-loop-rest
invariant-loop-rest g l = l.index + length l.rest ≤ length l.file

abbrev pub decreases-loop-rest : goal.decreases-loop-rest
decreases-loop-rest g l = length l.rest
