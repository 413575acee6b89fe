-- `floats::least_slack` meets its contract: `least` is the least of the links that were met.
use Rattle.std.specs.Prelude.{Ok}
use Rattle.cells.specs.ChainLaws.{Along}
use Rattle.memory.specs.Seen.{state}
use Rattle.memory.specs.Fields.{from_field}
use Rattle.order.specs.Plan.{plan_in}
use Rattle.dates.specs.Columns.{early_in}
use Rattle.floats.specs.Slack.{slack_step}
use Rattle.floats.proofs.least_slack.Given as goal

abbrev pub invariant-loop-k : goal.invariant-loop-k
invariant-loop-k l =
    (goal.iterator-loop-k).can_next l.k-iterator × (goal.iterator-loop-k).is_finite l.k-iterator
    × Along (slack_step (plan_in l.plan.sheet) (early_in (plan_in l.plan.sheet) (state l.tables)) l.i) Ok ((state l.tables).link from_field) l.tables.kept l.i l.slack l.least l.k-iterator
