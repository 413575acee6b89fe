-- `floats::is_moved` meets its contract. Each way out has its law.
use Rattle.std.specs.Prelude.{Ok}
use native.Mathlib.Omega.{arith}
use Prim.Native.Nat.{◌<◌}
use mathlib.Core.Path.{sym, ap, ◌∙◌}
use Rattle.number.specs.BitLaws.{mark_flag}
use Rattle.memory.specs.Seen.{state}
use Rattle.dates.specs.Columns.{early_in}
use Rattle.floats.specs.StoreLaws.{unmoved_none, unmoved_summary, moved_by_mark}
use Rattle.floats.proofs.is_moved.Goals as goal

pub returns-then-free-eq0 : goal.returns-then-free-eq0
returns-then-free-eq0 c =
    let x = c.args in
    λ p a W R e. unmoved_none p (early_in p (state x.tables.now)) x.i x.free c.if-free-eq0.true

pub returns-then-is_summary : goal.returns-then-is_summary
returns-then-is_summary c =
    let x = c.args in
    λ p a W R e. unmoved_summary p (early_in p (state x.tables.now)) x.i x.free (sym (c.is_summary.ensures ∙ mark_flag _ (W.marks x.i (rw a c.requires))) ∙ c.if-is_summary.true)

pub returns : goal.returns
returns c =
    let x = c.args in
    λ p a W R e.
    let d = early_in p (state x.tables.now) in
    let l : x.i < p.activities = omega (arith, a, c.requires) in
    c.is_marked_late.ensures p d
    ∙ moved_by_mark p d x.i x.free (sym (c.is_summary.ensures ∙ mark_flag _ (W.marks x.i l)) ∙ c.if-is_summary.false) c.if-free-eq0.false _ (ap Ok c.recorded_at-recorded.ensures ∙ R x.i l) _ e
