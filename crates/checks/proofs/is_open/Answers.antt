-- `checks::is_open` meets its contract.
use native.Mathlib.Omega.{arith}
use Rattle.std.proofs.Common.{not, sym, ap, ◌∙◌, eq-eqb, ne_eqb, ⊎_elim}
use Rattle.std.proofs.lemmas.Bool.{cases_eq}
use Rattle.order.specs.Plan.{plan_of, plan_in}
use Rattle.checks.specs.OpenSteps.{summary_closed, nothing_in, nothing_out, both_ways}
use Rattle.checks.proofs.is_open.Goals as goal

pub returns-then-act-tables : goal.returns-then-act-tables
unfolding plan_of
returns-then-act-tables c =
    let x = c.args in
    let p = plan_in x.sheet.now in
    eq-eqb _ _ c.if-act-tables.true ∙ nothing_in p c.requires.1 x.i c.requires.2 (sym c.if-not-is_summary.true ∙ c.is_summary.ensures) (omega (arith, c.act.ensures.0, c.if-act-tables.true))

pub returns-else-act-tables : goal.returns-else-act-tables
unfolding plan_of
returns-else-act-tables c =
    let x = c.args in
    let p = plan_in x.sheet.now in
    ⊎_elim (λ e. eq-eqb _ _ e ∙ nothing_out p c.requires.1 x.i c.requires.2 (sym c.if-not-is_summary.true ∙ c.is_summary.ensures) (λ z. c.if-act-tables.false (omega (arith, c.act.ensures.0, z))) (omega (arith, c.act-else-act-tables.ensures.0, e)))
    (λ n. ne_eqb _ _ n ∙ both_ways p c.requires.1 x.i c.requires.2 (sym c.if-not-is_summary.true ∙ c.is_summary.ensures) (λ z. c.if-act-tables.false (omega (arith, c.act.ensures.0, z))) (λ z. n (omega (arith, c.act-else-act-tables.ensures.0, z))))
    (cases_eq c.act-else-act-tables.result x.tables.now.kept)

pub returns-else-not-is_summary : goal.returns-else-not-is_summary
unfolding plan_of
returns-else-not-is_summary c =
    let x = c.args in
    let p = plan_in x.sheet.now in
    ap not c.if-not-is_summary.false ∙ summary_closed p c.requires.1 x.i c.requires.2 (sym c.if-not-is_summary.false ∙ c.is_summary.ensures)
