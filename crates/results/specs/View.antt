-- What the passes leave and what is shown, read off the lent memory.
use Rattle.std.specs.Prelude.{Bool, true, false, ℕ, ltb}
use Rattle.number.specs.Bit.{bit}
use Rattle.memory.specs.State.{State, put_act, put_act_z}
use Rattle.memory.specs.Fields.{late_start, late_finish, early_start, early_finish, work_left, free_float, longest_path, shown_start, shown_finish, shown_late_start, shown_late_finish, total_float, shown_free, is_critical, is_longest, greatest_finish, greatest_late}
use Rattle.order.specs.Plan.{Plan}
use Rattle.passes.specs.Run.{Ran}
use Rattle.dates.specs.Columns.{early_in, late_in, free_in, path_in}
use Rattle.results.specs.declared.Shown.{Shown}
use Rattle.results.specs.declared.Times.{Times}
use Rattle.results.specs.declared.Days.{Days}
use Rattle.results.specs.Results.{nothing}

-- what the passes leave; past the activities there are the end e and the marks `other`
abbrev pub ran_in : Plan → State → ℕ → (ℕ → Bool) → Ran
ran_in p S e other = record { early = early_in p S; late = late_in p S e; free = free_in p S; path = path_in p S other }

-- an activity's times, of what the passes leave and in its row
abbrev pub times_of : Ran → ℕ → Times
times_of r i = record {
  es = r.early.es i;
  ef = r.early.ef i;
  left = r.early.left i;
  ls = r.late.ls i;
  lf = r.late.lf i;
  free = r.free i;
  path = r.path i;
}

abbrev pub times_in : State → ℕ → Times
times_in S i = record {
  es = S.act early_start i;
  ef = S.act early_finish i;
  left = S.act work_left i;
  ls = S.act late_start i;
  lf = S.act late_finish i;
  free = S.act free_float i;
  path = ltb 0 (S.act longest_path i);
}

-- what is shown of an activity, in its row
abbrev pub days_in : State → ℕ → Days
days_in S i = record {
  es = S.act shown_start i;
  ef = S.act shown_finish i;
  ls = S.act shown_late_start i;
  lf = S.act shown_late_finish i;
}

abbrev pub shown_at : State → ℕ → Shown
shown_at S i = record {
  days = days_in S i;
  total = S.act_z total_float i;
  free = S.act shown_free i;
  critical = ltb 0 (S.act is_critical i);
  path = ltb 0 (S.act is_longest i);
  finish = S.act greatest_finish i;
  late = S.act greatest_late i;
}

-- what is shown of the first n activities
abbrev pub shown_to : ℕ → State → ℕ → Shown
shown_to n S i = elim (ltb i n) [ true ↦ shown_at S i | false ↦ nothing ]

abbrev pub shown_in : Plan → State → ℕ → Shown
shown_in p S = shown_to p.activities S

-- the row with x in it
abbrev pub put_days : State → ℕ → Shown → State
put_days S i x = put_act (put_act (put_act (put_act S shown_start i x.days.es) shown_finish i x.days.ef) shown_late_start i x.days.ls) shown_late_finish i x.days.lf

abbrev pub put_floats : State → ℕ → Shown → State
put_floats S i x = put_act (put_act (put_act (put_act_z S total_float i x.total) shown_free i x.free) is_critical i (bit x.critical)) is_longest i (bit x.path)

abbrev pub put_bounds : State → ℕ → Shown → State
put_bounds S i x = put_act (put_act S greatest_finish i x.finish) greatest_late i x.late

abbrev pub put_shown : State → ℕ → Shown → State
put_shown S i x = put_bounds (put_floats (put_days S i x) i x) i x
