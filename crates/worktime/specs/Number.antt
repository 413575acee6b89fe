-- The clock's refusals as rows of 01's table.
use Rattle.std.specs.Prelude.{ℕ}
use Rattle.worktime.specs.declared.ClockError.{ClockError}
use Rattle.worktime.specs.declared.ClockError.TheVariants.{TooLong}

-- "8, too long"
abbrev pub clock_number : ClockError → ℕ
clock_number TooLong = 8
