-- How the checks follow each other: what a part of them answers is what all of them answer.
use Rattle.std.specs.Prelude.{◌≡◌, refl, ◌≢◌, List, ◌++◌, ℕ, ◌-◌, ◌<◌, pos, length, get_or, replicate, Result}
use Rattle.std.proofs.Math.Path.{sym, ap}
use Rattle.std.proofs.Common.{subst, ◌∙◌, ⊎_elim, arith}
use Rattle.std.proofs.Math.ListN.{get_or-append}
use Rattle.number.specs.Order.{eq_or_ne}
use Rattle.memory.specs.declared.Tables.{Tables}
use Rattle.order.specs.Plan.{Plan}
use Rattle.order.specs.Checks.{Verdict, refuse_loop, or_else, before_ordering, judge_order, checked}
use Rattle.order.specs.CheckLaws.{calendars_first, activities_first, parents_first, summaries_first, links_first}
use Rattle.order.specs.VerdictLaws.{or_first, or_second}
use Rattle.order.specs.declared.PlanError.{PlanError}
use Rattle.order.specs.Refusals.{plan_number, plan_id, refused}
use Rattle.order.specs.RefusalLaws.{number_some}
use Rattle.checks.specs.declared.PlanCounts.{PlanCounts}
use Rattle.checks.specs.Stages.{ids_verdict, summaries_verdict, Judged, RefusedAs}

or_assoc : (u v w : Verdict) → or_else (or_else u v) w ≡ or_else u (or_else v w)
or_assoc u v w =
    ⊎_elim
    (λ (z : u.number ≡ 0). ap (λ (x : Verdict). or_else x w) (or_second u v z) ∙ sym (or_second u (or_else v w) z))
    (λ (n : u.number ≢ 0).
    ap (λ (x : Verdict). or_else x w) (or_first u v n) ∙ or_first u w n ∙ sym (or_first u (or_else v w) n)) (eq_or_ne u.number 0)

module _ (p : Plan) where
  pub checked_is : or_else (ids_verdict p) (summaries_verdict p) ≡ checked p
  unfolding checked before_ordering
  checked_is =
      let c = calendars_first p in
      let a = activities_first p in
      let b = parents_first p in
      let s = summaries_first p in
      let l = links_first p in
      let o = judge_order p in
      or_assoc c (or_else a b) (or_else s (or_else l o)) ∙ ap (or_else c) (or_assoc a b (or_else s (or_else l o)))
      ∙ ap (λ (x : Verdict). or_else c (or_else a (or_else b x))) (sym (or_assoc s l o))
      ∙ ap (λ (x : Verdict). or_else c (or_else a x)) (sym (or_assoc b (or_else s l) o)) ∙ ap (or_else c) (sym (or_assoc a (or_else b (or_else s l)) o))
      ∙ sym (or_assoc c (or_else a (or_else b (or_else s l))) o)

  module _ (v w : Verdict) (size room : ℕ) (names : List ℕ) (tables : Tables) where
    -- the first part is fine, so the rest decides
    pub then_judged : v.number ≡ 0 → (r : Result PlanCounts PlanError) → Judged p w size room names tables r → Judged p (or_else v w) size room names tables r
    then_judged e r h = subst (λ (u : Verdict). Judged p u size room names tables r) (sym (or_second v w e)) h

    -- the first part refuses
    pub first_refused : {e : PlanError} → RefusedAs p v size room names tables e → RefusedAs p (or_else v w) size room names tables e
    first_refused {e} h =
        subst (λ (u : Verdict). RefusedAs p u size room names tables e) (sym (or_first v w (λ z. omega (arith, number_some e, h.number_is)))) h

  module _ (v : Verdict) (size room : ℕ) (names : List ℕ) (tables : Tables) (e : PlanError) where
    -- a row without names
    pub plain_refused : v ≡ refused e → names ≡ replicate size 0 → tables.cells.now ≡ replicate room (pos 0) → RefusedAs p v size room names tables e
    plain_refused d n w =
        let z : size - 0 ≡ size = omega arith in rw d (record { number_is = refl; id_is = refl; named = rw z n; cleared = w })

    -- a row that names a loop
    pub loop_refused : (xs : List ℕ) → 0 < length xs → v ≡ refuse_loop (plan_number e) xs → plan_id e ≡ get_or names 0 0
        → names ≡ xs ++ replicate (size - length xs) 0 → tables.cells.now ≡ replicate room (pos 0) → RefusedAs p v size room names tables e
    loop_refused xs h d i n w =
        rw d (record {
          number_is = refl;
          id_is = i ∙ ap (λ (ys : List ℕ). get_or ys 0 0) n ∙ get_or-append xs (replicate (size - length xs) 0) 0 0 h;
          named = n;
          cleared = w;
        })

  -- by the lengths that names and memory had before
  pub judged_sizes : (v : Verdict) {size size' room room' : ℕ} (names : List ℕ) (tables : Tables) (r : Result PlanCounts PlanError) → size ≡ size' → room ≡ room'
      → Judged p v size room names tables r → Judged p v size' room' names tables r
  judged_sizes v {size} {size'} {room} {room'} names tables r e f h =
      subst (λ (n : ℕ). Judged p v size' n names tables r) f (subst (λ (n : ℕ). Judged p v n room names tables r) e h)
