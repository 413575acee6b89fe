-- `clock::weeks::WeekSums::of` meets its contract. The sums of the first `k` weekdays are found.
use mathlib.Core.Path.{◌≡◌, ap, ◌∙◌}
use Prim.Native.Nat.{ℕ, ◌≤◌, ◌+◌}
use native.Mathlib.Omega.{arith}
use borrow.Author.Count.{below_more}
use lib.ListN.{get_or, set, length-set}
use lib.Seq.{get_or-set_same, get_or-set_other}
use Rattle.clock.specs.RegularLaws.{sums_are}
use Rattle.clock.proofs.weeks.WeekSums.of.Goals as goal

pub loop-k-preserved : goal.loop-k-preserved
loop-k-preserved c =
    let l = c.before.before.before in
    let i = l.loop-k.invariant in
    let k = l.loop-k.k in
    let ss = l.loop-k.entries in
    let v = get_or ss k 0 + c.row_work.result in
    let same = get_or-set_same ss (k + 1) v 0 (omega arith) in
    let other : (j : ℕ) → j ≤ k → get_or (set ss (k + 1) v) j 0 ≡ get_or ss j 0 = λ j h. get_or-set_other ss (k + 1) j v 0 (omega arith) in (
      omega arith,
      simp length-set i.1,
      other 0 (omega arith) ∙ i.2,
      below_more _ k (λ j h. omega (arith, other (j + 1) (omega arith), other j (omega arith), i.3 j h)) (omega (arith, same, other k (omega arith), c.row_work.ensures.0)),
      omega (arith, same, i.4, c.row_work.ensures.1),
    )

pub returns : goal.returns
returns c =
    let l = c.before in
    let i = l.loop-k.invariant in
    let e : get_or l.loop-k.entries 7 0 ≡ get_or l.loop-k.entries l.loop-k.k 0 = ap (λ x. get_or l.loop-k.entries x 0) (omega arith) in
    sums_are _ _ i.2 (λ k h. i.3 k (omega arith)) (omega (arith, e, i.4))
