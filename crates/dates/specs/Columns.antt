-- The dates that stand in the lent memory, as the passes' definitions have them: functions of the activity.
use Rattle.std.specs.Prelude.{Bool, true, false, ℕ, ltb, Result, Ok, Err}
use Rattle.worktime.specs.declared.ClockError.{ClockError}
use Rattle.memory.specs.State.{State}
use Rattle.memory.specs.Fields.{late_start, late_finish, early_start, early_finish, work_left, free_float, longest_path}
use Rattle.order.specs.Plan.{Plan}
use Rattle.passes.specs.Plan.{origin}
use Rattle.passes.specs.Dates.{Early, Late, Pass, leaves, refused}

-- field f of the first n activities, and `other` past them
abbrev pub column : ℕ → (ℕ → ℕ) → State → ℕ → ℕ → ℕ
column n other S f i = elim (ltb i n) [ true ↦ S.act f i | false ↦ other i ]

-- the same for a flag
abbrev pub flags : ℕ → (ℕ → Bool) → State → ℕ → ℕ → Bool
flags n other S f i = elim (ltb i n) [ true ↦ ltb 0 (S.act f i) | false ↦ other i ]

module _ (p : Plan) (S : State) where
  abbrev pub left_in : ℕ → ℕ
  left_in = column p.activities (λ i. 0) S work_left

  abbrev pub early_in : Early
  early_in = record {
    es = column p.activities (λ i. origin p) S early_start;
    ef = column p.activities (λ i. origin p) S early_finish;
    left = left_in;
  }

  -- past the activities there is the end
  abbrev pub late_in : ℕ → Late
  late_in e = record {
    ls = column p.activities (λ i. e) S late_start;
    lf = column p.activities (λ i. e) S late_finish;
  }

  abbrev pub free_in : ℕ → ℕ
  free_in = column p.activities (λ i. 0) S free_float

  abbrev pub path_in : (ℕ → Bool) → ℕ → Bool
  path_in other = flags p.activities other S longest_path

-- what a pass's code leaves and answers, as its definition has it
abbrev pub ended : {A : Type 0} → A → Result Unit ClockError → Pass A
ended x (Ok tt) = leaves x
ended x (Err k) = refused k
