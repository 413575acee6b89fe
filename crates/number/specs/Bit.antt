-- A test as a number, so that tests can be counted.
use Rattle.std.specs.Prelude.{Bool, true, false, ℕ}

abbrev pub bit : Bool → ℕ
bit true = 1
bit false = 0
