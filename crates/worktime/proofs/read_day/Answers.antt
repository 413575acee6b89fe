-- `worktime::read_day` meets its contract, by the two ways of the test.
use mathlib.Core.Path.{refl, sym, ◌∙◌}
use Rattle.std.specs.Prelude.{Err}
use Rattle.date.specs.Years.{years_in}
use Rattle.worktime.specs.Reads.{reads_in, reads_out}
use Rattle.worktime.proofs.read_day.Goals as goal

pub returns-then-in_years : goal.returns-then-in_years
returns-then-in_years c =
    let e = sym c.in_years.ensures ∙ c.if-in_years.true in
    let y = years_in _ e in
    (sym (reads_in Err _ _ e), (refl, y.0, y.1))

pub returns : goal.returns
returns c = (sym (reads_out Err _ _ (sym c.in_years.ensures ∙ c.if-in_years.false)), tt)
