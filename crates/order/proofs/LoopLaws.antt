-- Demand 3, the loops: a plan that passes the checks before ordering is refused with 15 exactly where its kept links close a loop, the ids
-- given name such a loop, and otherwise the order is one.
use Rattle.std.specs.Prelude.{◌≡◌, refl, List, [], ◌∷◌, ◌≢◌, ◌↔◌, ℕ, zero, suc, ◌+◌, ◌-◌, ◌≤◌, ◌<◌, length, get_or}
use Rattle.std.proofs.Common.{sym, ◌∙◌, arith}
use Rattle.std.proofs.Math.Path.{ap}
use Rattle.std.proofs.Math.Logic.{⊎_elim}
use Rattle.number.specs.Order.{eq_or_ne}
use Rattle.network.specs.Links.{Link, Linked, Row, Loop, CloseLoop, Ordered}
use Rattle.network.specs.Kahn.{named_loop}
use Rattle.network.proofs.KahnLaws.{kahn_le, kahn_iff, kahn_ordered, named_loop_lem, named_loop_le, named_loop_below}
use Rattle.order.specs.Plan.{Plan}
use Rattle.order.specs.Ids.{id_of, index_of}
use Rattle.order.specs.Ties.{kept_links}
use Rattle.order.specs.Checks.{Verdict, refuse_loop, named, order, judge_order, before_ordering, checked}
use Rattle.order.specs.Demand.{Steps, LoopOf, KeptLink, LoopOfIds, KeptLinksCloseLoop}
use Rattle.order.specs.IdLaws.{index_id}
use Rattle.order.specs.VerdictLaws.{or_first, or_second, or_fine}
use Rattle.order.proofs.CheckLaws.{order_whole, order_loop}
use Rattle.order.proofs.RowLaws.{before_rows}
use Rattle.order.specs.FineLaws.{LinksFine}
use Rattle.order.proofs.FineLaws.{plan_fine_lem}
use Rattle.order.specs.TieLaws.{linked_kept, kept_linked, kept_ranged}

-- ---- rows of names
module _ (f : ℕ → ℕ) where
  pub named_length : (xs : List ℕ) → length (named f xs) ≡ length xs
  named_length [] = refl
  named_length (x ∷ xs) = ap suc (named_length xs)

  pub named_at : (xs : List ℕ) (q : ℕ) → q < length xs → get_or (named f xs) q 0 ≡ f (get_or xs q 0)
  named_at [] q l = absurd (omega arith)
  named_at (x ∷ xs) zero l = refl
  named_at (x ∷ xs) (suc q) l = named_at xs q (omega arith)

  module _ (R S : ℕ → ℕ → Type 0) (h : (x y : ℕ) → R x y → S (f x) (f y)) where
    named_steps : (xs : List ℕ) → Steps R xs → Steps S (named f xs)
    named_steps [] r = tt
    named_steps (x ∷ []) r = tt
    named_steps (x ∷ y ∷ ys) r = (h x y r.0, named_steps (y ∷ ys) r.1)

    pub named_loop_of : (xs : List ℕ) → LoopOf R xs → LoopOf S (named f xs)
    named_loop_of xs w =
        let e : length (named f xs) - 1 ≡ length xs - 1 = omega (arith, named_length xs) in record {
          long = omega (arith, w.long, named_length xs);
          closed =
              ap (λ (q : ℕ). get_or (named f xs) q 0) e ∙ named_at xs (length xs - 1) (omega (arith, w.long)) ∙ ap f w.closed
              ∙ sym (named_at xs 0 (omega (arith, w.long)));
          steps = named_steps xs w.steps;
        }

-- ---- loops of links
module _ (links : List Link) where
  row_steps : (xs : List ℕ) → Row links xs → Steps (Linked links) xs
  row_steps [] r = tt
  row_steps (x ∷ []) r = tt
  row_steps (x ∷ y ∷ ys) r = (r.0, row_steps (y ∷ ys) r.1)

  steps_row : (xs : List ℕ) → Steps (Linked links) xs → Row links xs
  steps_row [] r = tt
  steps_row (x ∷ []) r = tt
  steps_row (x ∷ y ∷ ys) r = (r.0, steps_row (y ∷ ys) r.1)

  pub loop_of : (xs : List ℕ) → Loop links xs → LoopOf (Linked links) xs
  loop_of xs w = record { long = w.long; closed = w.closed; steps = row_steps xs w.row }

  pub of_loop : (xs : List ℕ) → LoopOf (Linked links) xs → Loop links xs
  of_loop xs w = record { long = w.long; closed = w.closed; row = steps_row xs w.steps }

module _ (p : Plan) where
  -- ---- by ids and by the activities' numbers
  module _ (links : LinksFine p) where
    linked_ids : (i j : ℕ) → Linked (kept_links p) i j → KeptLink p (id_of p i) (id_of p j)
    linked_ids i j e =
        let f = linked_kept p i j e in record {
          link = f.link;
          within = f.within;
          kept = f.kept;
          leaves = sym (index_id p (p.link f.link).predecessor (links f.link f.within).from) ∙ ap (id_of p) f.leaves;
          enters = sym (index_id p (p.link f.link).successor (links f.link f.within).to) ∙ ap (id_of p) f.enters;
        }

    pub loop_ids : (xs : List ℕ) → Loop (kept_links p) xs → LoopOfIds p (named (id_of p) xs)
    loop_ids xs w = named_loop_of (id_of p) (Linked (kept_links p)) (KeptLink p) linked_ids xs (loop_of (kept_links p) xs w)

  ids_linked : (a b : ℕ) → KeptLink p a b → Linked (kept_links p) (index_of p a) (index_of p b)
  ids_linked a b f =
      kept_linked p (index_of p a) (index_of p b) (record {
        link = f.link;
        within = f.within;
        kept = f.kept;
        leaves = ap (index_of p) f.leaves;
        enters = ap (index_of p) f.enters;
      })

  pub ids_loop : (xs : List ℕ) → LoopOfIds p xs → Loop (kept_links p) (named (index_of p) xs)
  ids_loop xs w = of_loop (kept_links p) (named (index_of p) xs) (named_loop_of (index_of p) (KeptLink p) (Linked (kept_links p)) ids_linked xs w)

  pub closes_iff : LinksFine p → CloseLoop (kept_links p) ↔ KeptLinksCloseLoop p
  closes_iff links = (
    λ w. (named (id_of p) w.0, loop_ids links w.0 w.1),
    λ w. (named (index_of p) w.0, ids_loop w.0 w.1),
  )

  -- ---- the order and the loop
  module _ (links : LinksFine p) where
    pub order_fine : ((judge_order p).number ≡ 0) ↔ (¬ (CloseLoop (kept_links p)))
    order_fine = (
      λ z.
          ⊎_elim (λ e. (kahn_iff (kept_ranged p links)).0 e)
          (λ n. absurd (omega (arith, ap (λ (v : Verdict). v.number) (order_loop p n)))) (eq_or_ne (length (order p)) p.activities),
      λ h. ap (λ (v : Verdict). v.number) (order_whole p ((kahn_iff (kept_ranged p links)).1 h)),
    )

    pub order_fifteen : ((judge_order p).number ≡ 15) ↔ CloseLoop (kept_links p)
    order_fifteen = (
      λ e.
          ⊎_elim (λ h. absurd (omega (arith, ap (λ (v : Verdict). v.number) (order_whole p h))))
          (λ n. (named_loop (kept_links p) p.activities, named_loop_lem (kept_ranged p links) (short n))) (eq_or_ne (length (order p)) p.activities),
      λ w.
          ⊎_elim (λ h. absurd ((kahn_iff (kept_ranged p links)).0 h w)) (λ n. ap (λ (v : Verdict). v.number) (order_loop p n))
          (eq_or_ne (length (order p)) p.activities),
    )
      where
        short : length (order p) ≢ p.activities → length (order p) < p.activities
        short n = omega (arith, kahn_le (kept_ranged p links))

  -- ---- demand 3: "whatever plan passes the checks before ordering"
  module _ (passes : (before_ordering p).number ≡ 0) where
    checked_order : checked p ≡ judge_order p
    unfolding checked
    checked_order = or_second (before_ordering p) (judge_order p) passes

    fine_links : LinksFine p
    fine_links = ((plan_fine_lem p).0 passes).links

    -- "it is refused as a loop exactly when its kept links close one"
    pub loop_iff : ((checked p).number ≡ 15) ↔ KeptLinksCloseLoop p
    loop_iff = (
      λ e. (closes_iff fine_links).0 ((order_fifteen fine_links).0 (ap (λ (v : Verdict). v.number) (sym checked_order) ∙ e)),
      λ w. ap (λ (v : Verdict). v.number) checked_order ∙ (order_fifteen fine_links).1 ((closes_iff fine_links).1 w),
    )

    -- and else accepted by the checks
    pub no_loop_iff : ((checked p).number ≡ 0) ↔ (¬ (KeptLinksCloseLoop p))
    no_loop_iff = (
      λ e w. (order_fine fine_links).0 (ap (λ (v : Verdict). v.number) (sym checked_order) ∙ e) ((closes_iff fine_links).1 w),
      λ h. ap (λ (v : Verdict). v.number) checked_order ∙ (order_fine fine_links).1 (λ w. h ((closes_iff fine_links).0 w)),
    )

  -- where the row is 15, the checks before ordering passed
  pub loop_passes : (checked p).number ≡ 15 → (before_ordering p).number ≡ 0
  unfolding checked
  loop_passes e =
      ⊎_elim (λ z. z)
      (λ n.
      absurd (omega (arith, (before_rows p).most, ap (λ (v : Verdict). v.number) (or_first (before_ordering p) (judge_order p) n))))
      (eq_or_ne (before_ordering p).number 0)

  module _ (e : (checked p).number ≡ 15) where
    short : length (order p) < p.activities
    short =
        let passes = loop_passes e in
        ⊎_elim
        (λ h. absurd (omega (arith, ap (λ (v : Verdict). v.number) (checked_order passes ∙ order_whole p h))))
        (λ n. omega (arith, kahn_le (kept_ranged p (fine_links passes)))) (eq_or_ne (length (order p)) p.activities)

    pub loop_is : checked p ≡ refuse_loop 15 (named (id_of p) (named_loop (kept_links p) p.activities))
    loop_is = checked_order (loop_passes e) ∙ order_loop p (λ h. omega (arith, short))

    -- "and the ids given name such a loop"
    pub loop_named : LoopOfIds p (checked p).loop
    loop_named =
        rw loop_is
        (loop_ids (fine_links (loop_passes e)) (named_loop (kept_links p) p.activities) (named_loop_lem (kept_ranged p (fine_links (loop_passes e))) short))

    -- there is room for them in `names`
    pub loop_fits : length (checked p).loop ≤ p.activities + 1
    loop_fits =
        let r = kept_ranged p (fine_links (loop_passes e)) in
        omega (arith, ap (λ (v : Verdict). length v.loop) loop_is, named_length (id_of p) (named_loop (kept_links p) p.activities), named_loop_le r short)

    -- what holds of every activity's id, such as that it is not 0, holds of each of them
    pub loop_each : (P : ℕ → Type 0) → ((i : ℕ) → i < p.activities → P (id_of p i)) → (q : ℕ) → q < length (checked p).loop → P (get_or (checked p).loop q 0)
    loop_each P h q l =
        let xs = named_loop (kept_links p) p.activities in
        let b : q < length xs = omega (arith, ap (λ (v : Verdict). length v.loop) loop_is, named_length (id_of p) xs) in
        rw (ap (λ (v : Verdict). get_or v.loop q 0) loop_is ∙ named_at (id_of p) xs q b)
        (h (get_or xs q 0) (named_loop_below (kept_ranged p (fine_links (loop_passes e))) short q b))

  -- where nothing is refused, the order holds every activity once, what is linked to it before it
  module _ (e : (checked p).number ≡ 0) where
    pub fine_passes : (before_ordering p).number ≡ 0
    unfolding checked
    fine_passes = ((or_fine (before_ordering p) (judge_order p)).0 e).0

    pub fine_ordered : Ordered (kept_links p) p.activities (order p)
    fine_ordered =
        kahn_ordered (kept_ranged p (fine_links fine_passes))
        (⊎_elim (λ h. h)
        (λ n. absurd (omega (arith, ap (λ (v : Verdict). v.number) (checked_order fine_passes ∙ order_loop p n))))
        (eq_or_ne (length (order p)) p.activities))
