-- `placing::bounded` meets its contract. Each way out has its law; the code has one test for the two sides of the span.
use Rattle.std.proofs.Common.{◌+◌, sym, ⊎_elim, arith}
use Rattle.number.specs.Order.{lt_or_le}
use Rattle.placing.proofs.PlacingLaws.{bounded_in, bounded_after, bounded_before}
use Rattle.placing.proofs.bounded.Goals as goal

pub returns-then-abs_diff-gt-SPAN : goal.returns-then-abs_diff-gt-SPAN
returns-then-abs_diff-gt-SPAN c =
    let e = c.abs_diff.ensures in
    let far = c.if-abs_diff-gt-SPAN.true in
    ⊎_elim (λ l. sym (bounded_after _ _ l)) (λ l. sym (bounded_before _ _ (omega (arith, e, far)))) (lt_or_le (c.args.origin + 288000000) c.args.t)

pub returns : goal.returns
returns c =
    let e = c.abs_diff.ensures in
    let near = c.if-abs_diff-gt-SPAN.false in
    sym (bounded_in _ _ (omega (arith, e, near)) (omega (arith, e, near)))
