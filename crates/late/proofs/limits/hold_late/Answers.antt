-- `late::limits::hold_late` meets its contract. Each way out has its law.
use mathlib.Core.Path.{sym, ap, ◌∙◌}
use Rattle.project.specs.declared.Activity.{Activity}
use Rattle.number.specs.Exits.{handed_on}
use Rattle.late.specs.LimitLaws.{held_summary, held_second, held_refused}
use Rattle.late.proofs.limits.hold_late.Goals as goal

pub returns-then-is_summary : goal.returns-then-is_summary
returns-then-is_summary c = λ p d l i O m a. sym (held_summary p d l i _ (sym m ∙ c.if-is_summary.true))

pub returns : goal.returns
returns c =
    λ p d l i O m a.
    let x = c.args in
    let q = ap (λ (y : Activity). y.constraint) O.hand.activity_is in
    let r = ap (λ (y : Activity). y.secondary_constraint) O.hand.activity_is in
    c.limit_by-2.ensures p d l i O ∙ sym (held_second p d l i x.latest (sym m ∙ c.if-is_summary.false) x.actual a _ _ q r _ (sym (c.limit_by.ensures p d l i O) ∙ c.in_ok-f.was))

pub returns-in_err-f : goal.returns-in_err-f
returns-in_err-f c = rw (handed_on _ _ c.from_residual.ensures.1) (λ p d l i O m a.
    let x = c.args in
    let q = ap (λ (y : Activity). y.constraint) O.hand.activity_is in
    let r = ap (λ (y : Activity). y.secondary_constraint) O.hand.activity_is in
    sym (held_refused p d l i x.latest (sym m ∙ c.if-is_summary.false) x.actual a _ _ q r _ (sym (c.limit_by.ensures p d l i O) ∙ c.in_err-f.was)))
