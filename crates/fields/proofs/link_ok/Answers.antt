-- `fields::link_ok` meets its contract: each code's bound is the definition's.
use Rattle.std.proofs.Math.Path.{refl}
use Rattle.project.specs.Fields.{link_ok}
use Rattle.fields.proofs.link_ok.Goals as goal

pub returns : goal.returns
unfolding link_ok
returns c = rw (c.code_ok.ensures, c.byte-unit.ensures.0, c.byte-basis.ensures.0) refl
