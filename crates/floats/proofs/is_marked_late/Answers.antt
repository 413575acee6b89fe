-- `floats::is_marked_late` meets its contract. Each way out has its law.
use mathlib.Core.Path.{sym, ◌∙◌}
use Rattle.floats.specs.SlackLaws.{marked_first, marked_second, marked_in_hand}
use Rattle.floats.proofs.is_marked_late.Goals as goal

pub returns-then-is_late : goal.returns-then-is_late
returns-then-is_late c = λ p d. c.if-is_late.true ∙ sym (marked_first p d _ _ _ c.in-Unstarted.is (sym c.is_late.ensures ∙ c.if-is_late.true))

pub returns-else-is_late : goal.returns-else-is_late
returns-else-is_late c = λ p d.
    c.is_late-else-is_late.ensures ∙ sym (marked_second p d _ _ _ c.in-Unstarted.is (sym c.is_late.ensures ∙ c.if-is_late.false))

pub returns-in-Begun : goal.returns-in-Begun
returns-in-Begun c = λ p d. sym (marked_in_hand p d _ _ _ c.in-Begun.is)
