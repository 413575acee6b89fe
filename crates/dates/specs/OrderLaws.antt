-- The order as the passes take it: place q of it and of its reverse holds an activity.
use Rattle.std.specs.Prelude.{◌≡◌, ℕ, suc, ◌+◌, ◌-◌, ◌≤◌, ◌<◌, length, get_or}
use Rattle.std.proofs.Common.{sym, ap, ◌∙◌, ⊎_elim, arith}
use mathlib.Core.List.{List, [], ◌∷◌, reverse, reverse-cons}
use Rattle.std.proofs.lemmas.List.{length-reverse, get_or_at}
use Rattle.std.proofs.Math.ListN.{get_or-append}
use Rattle.number.specs.Order.{lt_or_le}
use Rattle.memory.specs.State.{State}
use Rattle.memory.specs.declared.Tables.{Tables}
use Rattle.memory.specs.Seen.{state}
use Rattle.memory.specs.Fields.{order_at}
use Rattle.order.specs.Plan.{Plan, plan_of, plan_in}
use Rattle.order.specs.Checks.{order, checked}
use Rattle.order.proofs.LoopLaws.{fine_ordered}
use Rattle.dates.specs.Standing.{Standing, Ready}
use Rattle.calendars.specs.declared.plan_sheet.PlanSheet.{PlanSheet}

-- ---- a list backward
reverse_at : (xs : List ℕ) (q : ℕ) → q < length xs → get_or (reverse xs) q 0 ≡ get_or xs (length xs - (q + 1)) 0
reverse_at [] q l = absurd (omega arith)
reverse_at (x ∷ xs) q l =
    ap (λ (ys : List ℕ). get_or ys q 0) (reverse-cons x xs) ∙
    ⊎_elim
    (λ (b : q < length xs).
    let e : suc (length xs) - (q + 1) ≡ suc (length xs - (q + 1)) = omega arith in
    get_or-append (reverse xs) (x ∷ []) 0 q (omega (arith, length-reverse xs)) ∙ reverse_at xs q b ∙ ap (λ (j : ℕ). get_or (x ∷ xs) j 0) (sym e))
    (λ (b : length xs ≤ q).
    let e : suc (length xs) - (q + 1) ≡ 0 = omega arith in
    get_or_at (reverse xs) x [] 0 q (omega (arith, length-reverse xs)) ∙ ap (λ (j : ℕ). get_or (x ∷ xs) j 0) (sym e)) (lt_or_le q (length xs))

-- ---- in a plan that the checks accept
module _ (p : Plan) (fine : (checked p).number ≡ 0) where
  pub back_length : length (reverse (order p)) ≡ p.activities
  back_length = length-reverse (order p) ∙ (fine_ordered p fine).all

  module _ {t : ℕ} {S : State} (W : Standing p t S) (q : ℕ) (l : q < p.activities) where
    at_below : S.act order_at q < p.activities
    at_below = omega (arith, W.ordered q l, (fine_ordered p fine).below q (omega (arith, (fine_ordered p fine).all)))

    pub back_at : S.act order_at (p.activities - (q + 1)) ≡ get_or (reverse (order p)) q 0
    back_at =
        let e = (fine_ordered p fine).all in
        W.ordered (p.activities - (q + 1)) (omega arith) ∙ ap (λ (n : ℕ). get_or (order p) (n - (q + 1)) 0) (sym e)
        ∙ sym (reverse_at (order p) q (omega arith))

  pub back_below : {t : ℕ} {S : State} → Standing p t S → (q : ℕ) → q < p.activities → S.act order_at (p.activities - (q + 1)) < p.activities
  back_below W q l = at_below W (p.activities - (q + 1)) (omega arith)

-- ---- as it is lent
module _ {plan : PlanSheet} {xs : Tables} (R : Ready plan xs) where
  pub order_length : length (order (plan_in plan.sheet)) ≡ plan.sheet.contents.activities
  unfolding plan_of
  order_length = (fine_ordered (plan_in plan.sheet) R.fine).all

  pub backward_length : length (reverse (order (plan_in plan.sheet))) ≡ plan.sheet.contents.activities
  unfolding plan_of
  backward_length = back_length (plan_in plan.sheet) R.fine

  module _ (q : ℕ) (l : q < plan.sheet.contents.activities) where
    pub order_at_lem : (state xs).act order_at q ≡ get_or (order (plan_in plan.sheet)) q 0
    unfolding plan_of
    order_at_lem = R.standing.ordered q l

    pub order_below : (state xs).act order_at q < plan.sheet.contents.activities
    unfolding plan_of
    order_below = at_below (plan_in plan.sheet) R.fine R.standing q l

    pub backward_at : (state xs).act order_at (plan.sheet.contents.activities - (q + 1)) ≡ get_or (reverse (order (plan_in plan.sheet))) q 0
    unfolding plan_of
    backward_at = back_at (plan_in plan.sheet) R.fine R.standing q l

    pub backward_below : (state xs).act order_at (plan.sheet.contents.activities - (q + 1)) < plan.sheet.contents.activities
    unfolding plan_of
    backward_below = back_below (plan_in plan.sheet) R.fine R.standing q l
