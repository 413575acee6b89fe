-- `ids::summaries` meets its contract: activities before i are fine.
use mathlib.Core.Path.{◌≡◌}
use Prim.Native.Nat.{◌-◌}
use Rattle.order.specs.Plan.{plan_in}
use Rattle.order.specs.Checks.{first_of, judge_summary}
use Rattle.ids.proofs.summaries.Given as goal

abbrev pub invariant-loop-i : goal.invariant-loop-i
invariant-loop-i g l =
    first_of (judge_summary (plan_in l.sheet)) (l.sheet.contents.activities - l.i) l.i ≡ first_of (judge_summary (plan_in l.sheet)) l.sheet.contents.activities 0
