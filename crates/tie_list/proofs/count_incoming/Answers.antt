-- `tie_list::count_incoming` meets its contract: after k turns the first k links are counted.
use Rattle.std.proofs.Common.{length, subst, sym, ◌∙◌, ap, arith, length-set, ◌+◌}
use Rattle.tie_list.specs.Tied.{leads_to, Counted}
use Rattle.tie_list.proofs.TiedLaws.{counted_none, counted_more, counted_fits}
use Rattle.tie_list.proofs.count_incoming.Goals as goal

pub loop-link-init : goal.loop-link-init
loop-link-init c =
    let ls = c.args.links.now in
    let f = c.fill.ensures in
    (f.len, subst (Counted ls 0) (sym (f.after (λ y e. e))) (counted_none ls (length c.args.counts.now)))

pub count_one-requires : goal.count_one-requires
count_one-requires c =
    let L = c.loop-link in
    let ls = c.args.links.now in
    counted_fits ls L.link-index L.counts c.loop-link-test.true L.invariant.1 (leads_to ls L.link-index) (omega arith)

pub loop-link-preserved : goal.loop-link-preserved
loop-link-preserved c =
    let L = c.loop-link in
    let ls = c.args.links.now in
    let e = c.count_one.ensures in (
      simp length-set at (ap length e) ∙ L.invariant.0,
      subst (Counted ls (L.link-index + 1)) (sym e) (counted_more ls L.link-index L.counts c.loop-link-test.true L.invariant.1),
    )
