-- `checks::name_links` meets its contract: the first k names are written.
use mathlib.Core.Path.{◌≡◌, ap, ◌∙◌}
use mathlib.Core.List.{◌++◌}
use Prim.Native.Nat.{ℕ, ◌+◌, ◌-◌}
use native.Mathlib.Omega.{arith}
use lib.ListN.{length, replicate}
use Rattle.network.specs.Kahn.{named_loop}
use Rattle.order.specs.Plan.{plan_in}
use Rattle.order.specs.Ids.{id_of}
use Rattle.order.specs.Ties.{kept_links}
use Rattle.order.specs.Checks.{named}
use Rattle.checks.specs.NameLaws.{naming_start, naming_more, naming_end}
use Rattle.checks.specs.ColumnLaws.{loop_length, loop_at_lem, loop_again_at}
use Rattle.checks.proofs.name_links.Goals as goal

pub loop-k-preserved : goal.loop-k-preserved
loop-k-preserved c =
    let x = c.args in
    let p = plan_in x.sheet.now in
    let xs = named (id_of p) (named_loop (kept_links p) x.sheet.now.contents.activities) in
    let L = c.loop-k in (
      L.invariant.0,
      naming_more xs _ _ L.k L.invariant.1 _ _ (omega (arith, loop_length (id_of p) c.requires.1)) (omega (arith, L.invariant.0))
          (loop_at_lem (id_of p) c.requires.1 L.k _ (omega arith) c.act-i.ensures.0) c.name_one.ensures,
    )

pub returns : goal.returns
returns c =
    let x = c.args in
    let p = plan_in x.sheet.now in
    let xs = named (id_of p) (named_loop (kept_links p) x.sheet.now.contents.activities) in
    let L = c.loop-k in
    let e : L.k ≡ x.m = omega arith in
    let many = loop_length (id_of p) c.requires.1 in
    let all = naming_more xs _ _ x.m (rw e at L.invariant.1) _ _ (omega (arith, many)) (omega (arith, L.invariant.0))
    (loop_again_at (id_of p) c.requires.1 _ c.act-i-2.ensures.0) c.name_one-2.ensures in
    naming_end xs _ _ (x.m + 1) all many ∙ ap (λ (n : ℕ). xs ++ replicate (n - length xs) 0) (naming_start xs (length x.names.now) _ (c.fill.ensures.after (λ y e. e))).kept
