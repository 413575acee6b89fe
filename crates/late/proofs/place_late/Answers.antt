-- `late::place_late` meets its contract. Each way out has its law.
use mathlib.Core.Path.{sym, ◌∙◌}
use Rattle.number.specs.Exits.{handed_on}
use Rattle.late.specs.PlaceLaws.{fitting_refused, fitting_dates, bounded_fits, placed_finish_refused, placed_finish_beyond, placed_lift_refused, placed_start_refused, placed_start_beyond, placed_at}
use Rattle.late.specs.UnfinishedLaws.{own_bounded, own_finish, own_start}
use Rattle.late.proofs.place_late.Goals as goal

pub lift-requires : goal.lift-requires
lift-requires c = (c.requires.1, bounded_fits _ _ _ c.requires.0 (sym c.bounded.ensures ∙ c.in_ok-b.was))

pub returns : goal.returns
returns c = (
  λ p d l i O q.
      sym
      (placed_at p d l i c.args.latest _ (own_finish O.hand _ ∙ sym c.place_finish.ensures ∙ c.in_ok-t.was) _ (own_bounded O _ ∙ sym c.bounded.ensures ∙ c.in_ok-b.was) _ (sym (c.lift.ensures.0 p d l i O.hand q) ∙ c.in_ok-f.was) _ (own_start O.hand _ ∙ sym c.start_of.ensures ∙ c.in_ok-u.was) _ (own_bounded O _ ∙ sym c.bounded-2.ensures ∙ c.in_ok-s.was)),
  fitting_dates _ _ (bounded_fits _ _ _ c.requires.0 (sym c.bounded-2.ensures ∙ c.in_ok-s.was)) (c.lift.ensures.1 _ c.in_ok-f.was),
)

pub returns-in_err-s : goal.returns-in_err-s
returns-in_err-s c = rw (handed_on _ _ c.from_residual-in_err-s.ensures.1) ((
  λ p d l i O q.
      sym
      (placed_start_beyond p d l i c.args.latest _ (own_finish O.hand _ ∙ sym c.place_finish.ensures ∙ c.in_ok-t.was) _ (own_bounded O _ ∙ sym c.bounded.ensures ∙ c.in_ok-b.was) _ (sym (c.lift.ensures.0 p d l i O.hand q) ∙ c.in_ok-f.was) _ (own_start O.hand _ ∙ sym c.start_of.ensures ∙ c.in_ok-u.was) _ (own_bounded O _ ∙ sym c.bounded-2.ensures ∙ c.in_err-s.was)),
  fitting_refused _,
)
    )

pub returns-in_err-u : goal.returns-in_err-u
returns-in_err-u c = rw (handed_on _ _ c.from_residual-in_err-u.ensures.1) ((
  λ p d l i O q.
      sym
      (placed_start_refused p d l i c.args.latest _ (own_finish O.hand _ ∙ sym c.place_finish.ensures ∙ c.in_ok-t.was) _ (own_bounded O _ ∙ sym c.bounded.ensures ∙ c.in_ok-b.was) _ (sym (c.lift.ensures.0 p d l i O.hand q) ∙ c.in_ok-f.was) _ (own_start O.hand _ ∙ sym c.start_of.ensures ∙ c.in_err-u.was)),
  fitting_refused _,
)
    )

pub returns-in_err-f : goal.returns-in_err-f
returns-in_err-f c = rw (handed_on _ _ c.from_residual-in_err-f.ensures.1) ((
  λ p d l i O q.
      sym
      (placed_lift_refused p d l i c.args.latest _ (own_finish O.hand _ ∙ sym c.place_finish.ensures ∙ c.in_ok-t.was) _ (own_bounded O _ ∙ sym c.bounded.ensures ∙ c.in_ok-b.was) _ (sym (c.lift.ensures.0 p d l i O.hand q) ∙ c.in_err-f.was)),
  fitting_refused _,
)
    )

pub returns-in_err-b : goal.returns-in_err-b
returns-in_err-b c = rw (handed_on _ _ c.from_residual-in_err-b.ensures.1) ((
  λ p d l i O q.
      sym
      (placed_finish_beyond p d l i c.args.latest _ (own_finish O.hand _ ∙ sym c.place_finish.ensures ∙ c.in_ok-t.was) _ (own_bounded O _ ∙ sym c.bounded.ensures ∙ c.in_err-b.was)),
  fitting_refused _,
)
    )

pub returns-in_err-t : goal.returns-in_err-t
returns-in_err-t c = rw (handed_on _ _ c.from_residual.ensures.1) ((
  λ p d l i O q.
      sym
      (placed_finish_refused p d l i c.args.latest _ (own_finish O.hand _ ∙ sym c.place_finish.ensures ∙ c.in_err-t.was)),
  fitting_refused _,
)
    )
