-- `sheet::read` meets its contract: what is answered of a whole sheet has a calendar.
use native.Mathlib.Omega.{arith}
use mathlib.Core.Path.{sym, ◌∙◌}
use Rattle.sheet.specs.ReadLaws.{read_all}
use Rattle.sheet.proofs.read.Goals as goal

pub returns : goal.returns
returns c =
    let s = c.args.sheet.now in
    let d = c.in_ok-end.end in
    let a = c.in_ok-activities.activities in
    let n = c.in_ok-links.links in
    let o = rw (c.new-project.ensures.0, c.new-project.ensures.1) at c.header_ok.ensures in
    sym
    (read_all s (omega arith) (omega arith) (sym o ∙ c.if-not-header_ok.false) d (sym c.read_calendars.ensures.end ∙ c.in_ok-end.was) a
    (sym c.read_run.ensures.run ∙ c.in_ok-activities.was) n (sym c.read_run-2.ensures.run ∙ c.in_ok-links.was) (omega arith) (λ q. omega arith))
