-- The lent names after a call.
use Rattle.std.specs.Prelude.{List, ◌++◌, ℕ, ◌-◌, length, replicate}

-- a row of numbers at the front, and zeros to the end
abbrev pub then_zeros : List ℕ → List ℕ → List ℕ
then_zeros xs names = xs ++ replicate (length names - length xs) 0
