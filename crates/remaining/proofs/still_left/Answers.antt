-- `remaining::still_left` meets its contract, by whether the activity tells its work left.
use Rattle.std.specs.Prelude.{Ok}
use borrow.Author.Rules.{rules}
use mathlib.Core.Path.{sym, ap, ◌∙◌}
use native.Mathlib.Omega.{arith}
use mir.Facts.{to_z-of_z}
use mir.Syntax.{w32}
use mir.Val.{SFits}
use Rattle.project.specs.declared.Activity.{Activity}
use Rattle.order.specs.Plan.{plan_in}
use Rattle.remaining.specs.LeftLaws.{still_told, still_untold}
use Rattle.remaining.proofs.still_left.Goals as goal

pub returns-in-Some : goal.returns-in-Some
returns-in-Some c =
    let x = c.args in
    let f : SFits w32 c.in-Some.minutes = search rules in
    ap Ok (omega (arith, rw (to_z-of_z f) at c.minutes_of.ensures.0, c.min.ensures))
    ∙ sym
    (still_told (plan_in x.sheet.now) x.i x.start _ _
    (sym (ap (λ (a : Activity). a.remaining) c.requires.0.is) ∙ c.in-Some.is))

pub returns-in-None : goal.returns-in-None
returns-in-None c =
    let x = c.args in
    c.since_start.ensures
    ∙ sym
    (still_untold (plan_in x.sheet.now) x.i x.start _
    (sym (ap (λ (a : Activity). a.remaining) c.requires.0.is) ∙ c.in-None.is))
