-- `clock::weeks::WeekSums::weekday_at` meets its contract. Of the weekdays looked at `over` are over, and they are the first, since the sums rise.
use Rattle.std.proofs.Common.{rules, arith, ◌∙◌, ◌≡◌, ◌+◌, ◌<◌, length, get_or, drop, take, ⊎_elim, ap}
use Rattle.std.proofs.lemmas.List.{get_or-drop, get_or-take}
use Rattle.std.proofs.lemmas.List.Edits.{length-between}
use Rattle.number.specs.Order.{lt_or_le}
use Rattle.clock.proofs.weeks.WeekSums.weekday_at.Goals as goal
use Rattle.clock.proofs.weeks.WeekSums.weekday_at.Goals.{then-sum-y, else-sum-y}

pub loop-sum-preserved : goal.loop-sum-preserved
loop-sum-preserved c =
    let i = c.loop-sum.invariant in
    let up = c.args.self.now.rising in
    let ss = c.args.self.now.entries in
    let n = c.loop-sum.over in
    let k = c.loop-sum.sum-index in
    let long : length ss ≡ 8 = search rules in
    let size : length (take 7 (drop 1 ss)) ≡ 7 = length-between ss 1 8 (omega (arith, long)) in
    let few : k < 7 = omega (arith, size, c.loop-sum-test.true) in
    let sum : get_or (take 7 (drop 1 ss)) k 0 ≡ get_or ss (k + 1) 0 =
    get_or-take 7 (drop 1 ss) k 0 few ∙ get_or-drop 1 ss k 0 ∙ ap (λ x. get_or ss x 0) (omega arith) in
    elim c.if-sum-y.branch [
      | then-sum-y w ↦
          let same : n ≡ k =
          ⊎_elim (λ h. absurd (omega (arith, sum, i.2 h, w.if-sum-y.true, up.0 (n + 1) (k + 1) (omega arith) (omega (arith, few))))) (λ h. omega (arith, i.0)) (lt_or_le n k) in
          let e : get_or ss c.if-sum-y.over 0 ≡ get_or ss (k + 1) 0 = ap (λ x. get_or ss x 0) (omega (arith, w.over-is, same)) in
          (omega (arith, w.over-is, i.0), omega (arith, e, sum, w.if-sum-y.true), λ h. absurd (omega (arith, w.over-is, same)))
      | else-sum-y w ↦
          let e : get_or ss c.if-sum-y.over 0 ≡ get_or ss n 0 = ap (λ x. get_or ss x 0) w.over-is in
          let f : get_or ss (c.if-sum-y.over + 1) 0 ≡ get_or ss (n + 1) 0 = ap (λ x. get_or ss (x + 1) 0) w.over-is in (
            omega (arith, w.over-is, i.0),
            omega (arith, e, i.1),
            λ h.
                ⊎_elim (λ g. omega (arith, f, i.2 g))
                (λ g. let q : get_or ss (n + 1) 0 ≡ get_or ss (k + 1) 0 = ap (λ x. get_or ss (x + 1) 0) (omega (arith, i.0)) in omega (arith, f, q, sum, w.if-sum-y.false)) (lt_or_le n k),
          )
    ]

pub returns : goal.returns
returns c =
    let i = c.loop-sum.invariant in
    let ss = c.args.self.now.entries in
    let n = c.loop-sum.over in
    let long : length ss ≡ 8 = search rules in
    let size : length (take 7 (drop 1 ss)) ≡ 7 = length-between ss 1 8 (omega (arith, long)) in
    let end : c.loop-sum.sum-index ≡ 7 = omega (arith, size, c.loop-sum-test.false, c.loop-sum.auto.sum-index-end) in
    let less : n < 7 =
    ⊎_elim (λ h. h) (λ h. let e : get_or ss n 0 ≡ get_or ss 7 0 = ap (λ x. get_or ss x 0) (omega (arith, i.0, end)) in absurd (omega (arith, e, i.1, c.requires))) (lt_or_le n 7) in
    (i.1, i.2 (omega (arith, end)), less)
