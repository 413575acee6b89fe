-- `results::total_of` meets its contract.
use Rattle.std.specs.Prelude.{Ok}
use borrow.Author.Rules.{rules}
use mathlib.Core.Path.{sym, ap, ◌∙◌}
use mir.Facts.{to_z-of_z}
use mir.Syntax.{w64}
use mir.Val.{SFits}
use Rattle.number.specs.Exits.{handed_on}
use Rattle.results.specs.Results.{total_by}
use Rattle.results.proofs.ShowingLaws.{total_both, total_finish, total_start}
use Rattle.results.proofs.total_of.Goals as goal

pub returns : goal.returns
returns c = λ p.
    let ff : SFits w64 c.in_ok-finish.finish = record { sfits = search rules } in
    let sf : SFits w64 c.in_ok-start.start = record { sfits = search rules } in
    let d = rw (to_z-of_z ff, to_z-of_z sf) at (c.float_by.ensures p) in
    let e = rw (to_z-of_z (record { sfits = c.float_by.type_inv })) at c.total_by.ensures in
    rw (to_z-of_z (record { sfits = c.total_by.type_inv }))
    (ap Ok (e ∙ ap (total_by (Ok c.args.actual)) d)
    ∙ total_both p _ _ _ _ _ _ (sym c.between.ensures ∙ c.in_ok-finish.was) (sym c.between-2.ensures ∙ c.in_ok-start.was))

pub returns-in_err-start : goal.returns-in_err-start
returns-in_err-start c = rw (handed_on _ _ c.from_residual-in_err-start.ensures.1) (λ p. total_start p _ _ _ _ _ _ (sym c.between.ensures ∙ c.in_ok-finish.was) (sym c.between-2.ensures ∙ c.in_err-start.was))

pub returns-in_err-finish : goal.returns-in_err-finish
returns-in_err-finish c = rw (handed_on _ _ c.from_residual.ensures.1) (λ p. total_finish p _ _ _ _ _ (sym c.between.ensures ∙ c.in_err-finish.was))
