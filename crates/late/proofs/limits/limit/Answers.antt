-- `late::limits::limit` meets its contract. Each way out has its law.
use Rattle.std.specs.Prelude.{Ok, Some}
use mathlib.Core.Path.{sym, ap, ◌∙◌}
use Prim.Native.Nat.{ℕ}
use Rattle.placing.specs.Placing.{bounded, constraint_time}
use Rattle.project.specs.Status.{on_start}
use Rattle.number.specs.Exits.{handed_on}
use Rattle.late.specs.LimitLaws.{limited_free, limited_at, limited_beyond, limited_nowhere, limited_refused}
use Rattle.late.proofs.limits.limit.Goals as goal

pub returns-in_default : goal.returns-in_default
returns-in_default c = λ p d l i O. sym (limited_free p d l i _ c.in_default.is)

pub returns-in_ok-b-in-Some-2 : goal.returns-in_ok-b-in-Some-2
returns-in_ok-b-in-Some-2 c =
    λ p d l i O.
    let x = c.args in
    let e = (λ z. constraint_time (O.hand.own_is z) (on_start (Some c.in-Some.kind))) ∙ sym c.constraint_time.ensures ∙ (c.in_ok-t.was ∙ ap Ok c.in-Some-2.is) in
    let f = ap (λ (o : ℕ). bounded o c.in-Some-2.t) (sym O.origin_is) ∙ sym c.bounded.ensures ∙ c.in_ok-b-in-Some-2.was in
    c.limit_at.ensures p d l i O.hand ∙ sym (limited_at p d l i c.in-Some.is x.latest _ _ e f)

pub returns-in_err-b-in-Some-2 : goal.returns-in_err-b-in-Some-2
returns-in_err-b-in-Some-2 c = rw (handed_on _ _ c.from_residual-in_err-b-in-Some-2.ensures.1) (λ p d l i O.
    let x = c.args in
    let e = (λ z. constraint_time (O.hand.own_is z) (on_start (Some c.in-Some.kind))) ∙ sym c.constraint_time.ensures ∙ (c.in_ok-t.was ∙ ap Ok c.in-Some-2.is) in
    let f = ap (λ (o : ℕ). bounded o c.in-Some-2.t) (sym O.origin_is) ∙ sym c.bounded.ensures ∙ c.in_err-b-in-Some-2.was in
    sym (limited_beyond p d l i c.in-Some.is x.latest _ _ e f))

pub returns-in-None : goal.returns-in-None
returns-in-None c =
    λ p d l i O.
    sym (limited_nowhere p d l i c.in-Some.is c.args.latest ((λ z. constraint_time (O.hand.own_is z) (on_start (Some c.in-Some.kind))) ∙ sym c.constraint_time.ensures ∙ (c.in_ok-t.was ∙ ap Ok c.in-None.is)))

pub returns-in_err-t : goal.returns-in_err-t
returns-in_err-t c =
    rw (handed_on _ _ c.from_residual.ensures.1)
    (λ p d l i O.
    sym (limited_refused p d l i c.in-Some.is c.args.latest _ ((λ z. constraint_time (O.hand.own_is z) (on_start (Some c.in-Some.kind))) ∙ sym c.constraint_time.ensures ∙ c.in_err-t.was)))
