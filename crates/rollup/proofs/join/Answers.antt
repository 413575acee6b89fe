-- `rollup::join` meets its contract.
use borrow.Author.Rules.{rules}
use mathlib.Core.Bool.{Bool}
use mathlib.Core.Path.{◌≡◌, sym, ap, ◌∙◌}
use mir.Facts.{to_z-of_z}
use mir.Syntax.{w64}
use mir.Val.{SFits}
use Rattle.std.specs.Prelude.{◌||◌}
use Rattle.rollup.proofs.join.Goals as goal
use Rattle.rollup.proofs.join.Goals.{then-x, else-x}

paths : (c : goal.After-new) → c.if-x.new ≡ c.args.x.shown.path || c.args.y.shown.path
paths c = elim c.if-x.branch [
  | then-x w ↦ w.new-is ∙ w.if-x.true ∙ sym (ap (λ (b : Bool). b || c.args.y.shown.path) w.if-x.true)
  | else-x w ↦ w.new-is ∙ sym (ap (λ (b : Bool). b || c.args.y.shown.path) w.if-x.false)
]

pub returns : goal.returns
returns c =
    let f : SFits w64 c.args.x.shown.total = record { sfits = search rules } in
    c.new.ensures ∙ (λ z. record {
      days = record { es = c.min.ensures z; ef = c.max.ensures z; ls = c.min-2.ensures z; lf = c.max-2.ensures z };
      total = to_z-of_z f z;
      free = c.args.x.shown.free;
      critical = c.args.x.shown.critical;
      path = paths c z;
      finish = c.max-3.ensures z;
      late = c.max-4.ensures z;
    })
