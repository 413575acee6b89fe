-- `early::placed` meets its contract. Each way out has its law.
use mathlib.Core.Path.{sym, ◌∙◌}
use Rattle.dates.specs.Bounds.{bounded_below}
use Rattle.number.specs.Exits.{handed_on}
use Rattle.early.specs.EarlyLaws.{placed_from, placed_uncounted, placed_far, placed_refused}
use Rattle.early.proofs.placed.Goals as goal

pub finished-requires : goal.finished-requires
finished-requires c = (bounded_below _ _ c.args.unplaced.now.times.near (sym c.bounded.ensures ∙ c.in_ok-s.was), c.minutes_from.ensures.1 _ c.in_ok-m.was)

pub returns : goal.returns
returns c = λ p d i U. c.finished.ensures p d i U.times_are ∙ sym (placed_from U.hand _ c.place_start.ensures _ _ c.in_ok-t.was U.times_are.origin_is c.bounded.ensures _ c.in_ok-s.was (c.minutes_from.ensures.0 p d i U) _ c.in_ok-m.was)

pub returns-in_err-m : goal.returns-in_err-m
returns-in_err-m c = rw (handed_on _ _ c.from_residual-in_err-m.ensures.1) (λ p d i U. sym (placed_uncounted U.hand _ c.place_start.ensures _ _ c.in_ok-t.was U.times_are.origin_is c.bounded.ensures _ c.in_ok-s.was (c.minutes_from.ensures.0 p d i U) _ c.in_err-m.was))

pub returns-in_err-s : goal.returns-in_err-s
returns-in_err-s c = rw (handed_on _ _ c.from_residual-in_err-s.ensures.1) (λ p d i U. sym (placed_far U.hand _ c.place_start.ensures _ _ c.in_ok-t.was U.times_are.origin_is c.bounded.ensures _ c.in_err-s.was))

pub returns-in_err-t : goal.returns-in_err-t
returns-in_err-t c = rw (handed_on _ _ c.from_residual.ensures.1) (λ p d i U. sym (placed_refused U.hand _ c.place_start.ensures _ c.in_err-t.was))
