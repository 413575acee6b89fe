-- `dates::floor_of` meets its contract: each way out has its law.
use mathlib.Core.Path.{sym, ◌∙◌}
use native.Mathlib.Omega.{arith}
use Rattle.dates.specs.ReadLaws.{floor_later, floor_absent}
use Rattle.project.specs.Records.{project_at}
use Rattle.dates.proofs.floor_of.Goals as goal

pub returns-in-Some : goal.returns-in-Some
unfolding project_at
returns-in-Some c =
    let o = c.origin_of-start.ensures in
    let m = c.midnight.ensures in
    (omega (arith, floor_later _ _ _ _ _ (sym c.data_date.ensures ∙ c.in-Some.is) o.0 m.0), omega (arith, o.1, m.1))

pub returns-in-None : goal.returns-in-None
unfolding project_at
returns-in-None c =
    let o = c.origin_of-start.ensures in
    (sym (floor_absent _ _ _ (sym c.data_date.ensures ∙ c.in-None.is) o.0), o.1)
