-- The memory with late dates put into it.
use Rattle.std.specs.Prelude.{ℕ}
use Rattle.memory.specs.State.{State, put_act, fill_act}
use Rattle.memory.specs.Fields.{late_start, late_finish}

-- those of activity i
abbrev pub stored : State → ℕ → ℕ → ℕ → State
stored S i s f = put_act (put_act S late_start i s) late_finish i f

-- the same time for both dates of each of n activities
abbrev pub filled : State → ℕ → ℕ → State
filled S n v = fill_act (fill_act S late_start n v) late_finish n v
