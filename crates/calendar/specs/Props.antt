-- What a calendar keeps has one proof at most, so that a struct may hold it as a ghost field.
use Rattle.std.specs.Prelude.{List, [], ◌∷◌, ℕ, max}
use mathlib.Core.HLevel.{×₃_prop, Unit-prop}
use denote.Struct.Props as logic
use Rattle.calendar.specs.declared.Period.{Period}
use Rattle.calendar.specs.Hours.{Ordered}

pub Ordered-prop : (a : ℕ) (ps : List Period) → IsProp (Ordered a ps)
Ordered-prop a [] = Unit-prop
Ordered-prop a (p ∷ ps) = ×₃_prop (Prim.hlevel logic.props) (Prim.hlevel logic.props) (Ordered-prop (max a p.to) ps)

pub ruleset props = (Ordered-prop, logic.props)
