-- `fields::activity_ok` meets its contract: each place is the definition's.
use Rattle.std.proofs.Math.Path.{refl}
use Rattle.project.specs.Fields.{activity_ok}
use Rattle.fields.proofs.activity_ok.Goals as goal

pub returns : goal.returns
unfolding activity_ok
returns c = rw (c.activity_dates.ensures, c.constraint_ok.ensures, c.constraint_ok-2.ensures, c.day_or_absent_at.ensures) refl
