-- `backward::finish_onward` meets its contract. Each way out has its law.
use mathlib.Core.Path.{sym, ◌∙◌}
use Prim.Native.Nat.{◌^◌}
use native.Mathlib.Omega.{arith}
use Rattle.number.specs.BitLaws.{mark_flag}
use Rattle.memory.specs.Seen.{state}
use Rattle.memory.specs.Fields.{early_finish}
use Rattle.order.specs.Plan.{plan_of}
use Rattle.order.specs.Ids.{summary}
use Rattle.bounds.specs.ReadyLaws.{activities_are}
use Rattle.backward.specs.FinishLaws.{onward_summary, onward_met, past_more, below_more}
use Rattle.backward.specs.Finish.{past}
use Rattle.backward.proofs.finish_onward.Goals as goal

pub returns-then-is_summary : goal.returns-then-is_summary
returns-then-is_summary g c =
    let C = c.args.sheet.now.contents in
    let B = summary (plan_of c.args.sheet.now.bytes.now C) c.args.i in
    let F = (state (g.R.Reads.tables c.args.tables.now)).act early_finish c.args.i in
    let m = sym (c.is_summary.ensures ∙ mark_flag B (c.requires.2 c.args.i (omega (arith, c.requires.1, activities_are c.args.sheet.now.bytes.now C)))) in
    (sym (onward_summary B F (past c.args.top) (m ∙ c.if-is_summary.true)), c.requires.3)

pub returns : goal.returns
returns g c =
    let C = c.args.sheet.now.contents in
    let B = summary (plan_of c.args.sheet.now.bytes.now C) c.args.i in
    let F = (state (g.R.Reads.tables c.args.tables.now)).act early_finish c.args.i in
    let t = c.args.top in
    let f = c.act-finish.ensures in
    let m = sym (c.is_summary.ensures ∙ mark_flag B (c.requires.2 c.args.i (omega (arith, c.requires.1, activities_are c.args.sheet.now.bytes.now C)))) in
    rw (c.max.ensures, c.unwrap_or.ensures, f.0)
    (past_more t F ∙ sym (onward_met B F (past t) (m ∙ c.if-is_summary.false)), below_more t F (2 ^ 63) c.requires.3 (omega (arith, f.0, f.1)))
