-- `dates::recorded_at` meets its contract: each way out has its law.
use native.Mathlib.Omega.{arith}
use mathlib.Core.Path.{sym, ap, ◌∙◌}
use Rattle.placing.specs.declared.Actual.TheVariants.{Begun, Completed}
use Rattle.dates.specs.ReadLaws.{actual_unstarted, actual_begun, actual_completed}
use Rattle.dates.proofs.recorded_at.Goals as goal

pub returns-then-how-eq0 : goal.returns-then-how-eq0
returns-then-how-eq0 g c = sym (actual_unstarted _ _ _ (sym c.act-how.ensures.0 ∙ c.if-how-eq0.true))

pub returns-then-how-eq1 : goal.returns-then-how-eq1
returns-then-how-eq1 g c =
    ap Begun c.act-start.ensures.0 ∙ sym (actual_begun _ _ _ (sym c.act-how.ensures.0 ∙ c.if-how-eq1.true))

pub returns : goal.returns
returns g c =
    let h = c.act-how.ensures.0 in
    (λ z. Completed (c.act-start.ensures.0 z) (c.act.ensures.0 z))
    ∙ sym (actual_completed _ _ _ (λ e. c.if-how-eq0.false (h ∙ e)) (λ e. omega (arith, h)))
