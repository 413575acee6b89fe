-- `results::shown_of` meets its contract.
use Rattle.std.specs.Prelude.{Ok}
use borrow.Author.Rules.{rules}
use mathlib.Core.Path.{sym, ap, ◌∙◌}
use mir.Facts.{to_z-of_z}
use mir.Syntax.{w64}
use mir.Val.{SFits}
use Rattle.number.specs.Exits.{handed_on}
use Rattle.passes.specs.Dates.{leaves}
use Rattle.results.proofs.ShowingLaws.{shown_refused, shown_out, shown_in_lem, days_low}
use Rattle.results.proofs.shown_of.Goals as goal

pub returns-in_err-total : goal.returns-in_err-total
returns-in_err-total c = rw (handed_on _ _ c.from_residual.ensures.1) (λ p. shown_refused p c.args.project c.args.kind c.args.day_length _ (Ok c.args.actual) c.args.t _ (sym (c.total_of.ensures p) ∙ c.in_err-total.was))

pub returns-then-not-all_in_years : goal.returns-then-not-all_in_years
returns-then-not-all_in_years c = λ p.
    shown_out p c.args.project c.args.kind c.args.day_length _ (Ok c.args.actual) c.args.t c.in_ok-total.total _ (sym (c.total_of.ensures p) ∙ c.in_ok-total.was)
    (c.days_of-days.ensures p) (sym c.all_in_years.ensures ∙ c.if-not-all_in_years.true)

pub new-requires : goal.new-requires
new-requires c =
    let l = days_low _ (sym c.all_in_years.ensures ∙ c.if-not-all_in_years.false) in
    record { days = record { es = l.0; ef = l.1; ls = l.2; lf = l.3 }; free = c.requires.3; finish = c.requires.1; late = c.requires.2 }

pub returns : goal.returns
returns c =
    let f : SFits w64 c.in_ok-total.total = record { sfits = search rules } in
    let y = sym c.all_in_years.ensures ∙ c.if-not-all_in_years.false in
    λ p. ap leaves c.new.ensures ∙ rw (to_z-of_z f)
    (shown_in_lem p c.args.project c.args.kind c.args.day_length _ (Ok c.args.actual) c.args.t c.in_ok-total.total _ _ (sym (c.total_of.ensures p) ∙ c.in_ok-total.was)
    (c.days_of-days.ensures p) y (rw (to_z-of_z f) at (c.critical_of-critical.ensures p)))
