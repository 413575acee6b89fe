-- `longest::is_last` meets its contract, each way out by its law.
use mathlib.Core.Path.{sym, ◌∙◌}
use Rattle.memory.specs.Seen.{state}
use Rattle.longest.specs.LastLaws.{last_summary, last_completed, last_finish}
use Rattle.longest.proofs.is_last.Goals as goal

pub returns-then-is_summary : goal.returns-then-is_summary
returns-then-is_summary c =
    let x = c.args in
    λ p t e W R. sym (last_summary p (state x.tables.now) t W R x.finish x.i (rw e c.requires) c.is_summary.ensures c.if-is_summary.true)

pub returns-then-is_completed : goal.returns-then-is_completed
returns-then-is_completed c =
    let x = c.args in
    λ p t e W R.
    sym
    (last_completed p (state x.tables.now) t W R x.finish x.i (rw e c.requires) c.is_summary.ensures c.if-is_summary.false c.recorded_at-recorded.result c.recorded_at-recorded.ensures (sym (c.is_completed.ensures p) ∙ c.if-is_completed.true))

pub returns : goal.returns
returns c =
    let x = c.args in
    λ p t e W R.
    sym
    (last_finish p (state x.tables.now) t W R x.finish x.i (rw e c.requires) c.is_summary.ensures c.if-is_summary.false c.recorded_at-recorded.result c.recorded_at-recorded.ensures (sym (c.is_completed.ensures p) ∙ c.if-is_completed.false) c.act.result c.act.ensures.0)
