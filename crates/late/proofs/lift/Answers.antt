-- `late::lift` meets its contract. Each way out has its law.
use Rattle.std.specs.Prelude.{Ok}
use mathlib.Core.Path.{sym, ap, ◌∙◌}
use native.Mathlib.Omega.{arith}
use Rattle.number.specs.Exits.{handed_on}
use Rattle.late.specs.PlaceLaws.{fits_at, fits_refused, lifted_not_before, lifted_after_latest, lifted_refused, lifted_same, lifted_apart}
use Rattle.late.specs.UnfinishedLaws.{own_same}
use Rattle.late.proofs.lift.Goals as goal

pub returns-then-early-f : goal.returns-then-early-f
returns-then-early-f c = (λ p d l i O q. sym (lifted_not_before p d l i _ _ (omega (arith, q, c.if-early-f.true))), fits_at _ c.requires.1)

pub returns-then-latest-early : goal.returns-then-latest-early
returns-then-latest-early c = (λ p d l i O q. sym (lifted_after_latest p d l i _ _ (omega (arith, q, c.if-latest-early.true))), fits_at _ c.requires.1)

pub returns-then-early-s : goal.returns-then-early-s
returns-then-early-s c = (
  λ p d l i O q.
      ap Ok q ∙ sym (lifted_same p d l i _ _ (omega (arith, q, c.if-early-f.false)) (omega (arith, q, c.if-latest-early.false)) _ (own_same O _ ∙ sym c.latest_same.ensures ∙ c.in_ok-s.was) (omega (arith, q, c.if-early-s.true))),
  fits_at _ c.requires.0,
)

pub returns : goal.returns
returns c = (
  λ p d l i O q.
      sym (lifted_apart p d l i _ _ (omega (arith, q, c.if-early-f.false)) (omega (arith, q, c.if-latest-early.false)) _ (own_same O _ ∙ sym c.latest_same.ensures ∙ c.in_ok-s.was) (omega (arith, q, c.if-early-s.false))),
  fits_at _ c.requires.1,
)

pub returns-in_err-s : goal.returns-in_err-s
returns-in_err-s c = rw (handed_on _ _ c.from_residual.ensures.1) ((
  λ p d l i O q.
      sym (lifted_refused p d l i _ _ (omega (arith, q, c.if-early-f.false)) (omega (arith, q, c.if-latest-early.false)) _ (own_same O _ ∙ sym c.latest_same.ensures ∙ c.in_err-s.was)),
  fits_refused _,
)
    )
