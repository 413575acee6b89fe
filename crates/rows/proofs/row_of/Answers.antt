-- `rows::row_of` meets its contract.
use borrow.Author.Rules.{rules}
use mathlib.Core.Path.{ap, ◌∙◌}
use mathlib.Core.List.{[], ◌∷◌}
use native.Mathlib.Omega.{arith}
use mir.Facts.{to_z-of_z, to_z_pos}
use mir.Syntax.{w64}
use mir.Val.{SFits}
use lib.IntN.{ℤ, pos}
use Rattle.number.specs.Sign.{whole_days}
use Rattle.rows.proofs.row_of.Goals as goal

pub returns : goal.returns
returns c =
    let x = c.args.x.now in
    let h = c.requires in
    let t : SFits w64 x.shown.total = record { sfits = search rules } in
    let free = to_z_pos w64 x.holds.free in
    let in_days = λ (a : ℤ). whole_days a c.args.day_length in
    λ z.
    to_z_pos w64 h.0 z
    ∷ (to_z-of_z {w = w64} (record { sfits = c.unbiased.type_inv }) ∙ c.unbiased.ensures.0) z
    ∷ (to_z-of_z {w = w64} (record { sfits = c.unbiased-2.type_inv }) ∙ c.unbiased-2.ensures.0) z
    ∷ (to_z-of_z {w = w64} (record { sfits = c.unbiased-3.type_inv }) ∙ c.unbiased-3.ensures.0) z
    ∷ (to_z-of_z {w = w64} (record { sfits = c.unbiased-4.type_inv }) ∙ c.unbiased-4.ensures.0) z
    ∷ (to_z-of_z {w = w64} (record { sfits = c.whole_days.type_inv }) ∙ c.whole_days.ensures ∙ ap in_days (to_z-of_z t)) z
    ∷ (to_z-of_z {w = w64} (record { sfits = c.whole_days-2.type_inv }) ∙ c.whole_days-2.ensures ∙ ap in_days free) z
    ∷ to_z-of_z t z
    ∷ free z
    ∷ (to_z-of_z {w = w64} (record { sfits = c.from.type_inv }) ∙ c.from.ensures) z
    ∷ (to_z-of_z {w = w64} (record { sfits = c.from-2.type_inv }) ∙ c.from-2.ensures) z
    ∷ (to_z_pos w64 (omega (arith, c.status.ensures.1)) ∙ ap pos c.status.ensures.0) z
    ∷ to_z_pos w64 h.2 z
    ∷ (to_z-of_z {w = w64} (record { sfits = c.minute_of.type_inv }) ∙ c.minute_of.ensures) z
    ∷ (to_z-of_z {w = w64} (record { sfits = c.minute_of-2.type_inv }) ∙ c.minute_of-2.ensures) z
    ∷ []
