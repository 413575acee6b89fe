-- The forward pass, place by place: the dates before each step, what later steps leave alone, the links into an activity and the work left.
use Rattle.std.proofs.Math.Path.{◌≡◌, refl, ap}
use Rattle.std.proofs.Common.{sym, ◌∙◌, true≢false, arith, eq-eqb, eqb-true}
use Rattle.std.specs.Prelude.{Bool, true, false, ◌||◌, ◌≢◌, eqb, length, Ok}
use mathlib.Core.List.{List, [], ◌∷◌}
use Rattle.std.proofs.Math.Logic.{⊎_elim}
use Prim.Native.Nat.{ℕ, zero, suc, ◌+◌, ◌≤◌, ◌<◌}
use Rattle.std.proofs.Math.ListN.{get_or}
use Rattle.number.specs.Order.{lt_or_le, eq_or_ne}
use Rattle.cells.specs.Chain.{keyed}
use Rattle.network.specs.Links.{Link, no_link, Linked}
use Rattle.network.specs.Outgoing.{to_at, incoming}
use Rattle.placing.specs.declared.Actual.TheVariants.{Unstarted}
use Rattle.placing.specs.Placing.{via}
use Rattle.order.specs.Plan.{Plan}
use Rattle.order.specs.Ids.{summary}
use Rattle.order.specs.Ties.{tie_of, kept_below, kept_links, ignored, from_of, to_of}
use Rattle.order.specs.TieLaws.{ends_length, ends_at, kept_picked}
use Rattle.passes.specs.Plan.{tie, ties_into, recorded, full}
use Rattle.passes.specs.Dates.{Early, Pass, leaves, refused, after, put, through}
use Rattle.passes.specs.Forward.{left_by, left_of, left_below, forward}
use Rattle.timetable.specs.WalkLaws.{via_leaves}
use Rattle.timetable.proofs.BoundLaws.{Each}
use Rattle.timetable.proofs.StepLaws.{put_here, put_there, step_changes}

-- ---- a pass that is not refused, step by step
module _ {A : Type 0} (step : A → ℕ → Pass A) where
  pub record Trace (xs : List ℕ) (x y : A) : Type 0 where
    pub at : ℕ → A
    pub starts : at 0 ≡ x
    pub ends : at (length xs) ≡ y
    pub steps : (q : ℕ) → q < length xs → step (at q) (get_or xs q 0) ≡ leaves (at (suc q))

  first : A → (ℕ → A) → ℕ → A
  first x f zero = x
  first x f (suc q) = f q

  trace_cons : (i : ℕ) (is : List ℕ) (x x' y : A) → step x i ≡ leaves x' → Trace is x' y → Trace (i ∷ is) x y
  unfolding first
  trace_cons i is x x' y e t = record { at = first x t.at; starts = refl; ends = t.ends; steps = steps }
    where
      steps : (q : ℕ) → q < suc (length is) → step (first x t.at q) (get_or (i ∷ is) q 0) ≡ leaves (t.at q)
      steps zero l = e ∙ ap leaves (sym t.starts)
      steps (suc q) l = t.steps q (omega arith)

  pub through_trace : (xs : List ℕ) (x y : A) → through step xs x ≡ leaves y → Trace xs x y
  unfolding through
  through_trace [] x y e = record { at = λ q. x; starts = refl; ends = cc; steps = λ q l. absurd (omega arith) }
  through_trace (i ∷ is) x y e = by (λ x'. through_trace is x' y) (step x i) refl e
    where
      by : ((x' : A) → through step is x' ≡ leaves y → Trace is x' y) → (z : Pass A) → step x i ≡ z → after z (through step is) ≡ leaves y
          → Trace (i ∷ is) x y
      by rest (leaves x') s e = trace_cons i is x x' y s (rest x' e)
      by rest (refused k) s e = let z : ◌≡◌ {A = ℕ} 0 1 = cc in absurd (omega arith)

-- ---- the links whose key is v
module _ (P : ℕ → Type 0) (key : ℕ → ℕ) (v : ℕ) where
  pick_each : (b : Bool) (k : ℕ) (ks : List ℕ) → (b ≡ true → P k) → Each P ks → Each P (elim b [ true ↦ k ∷ ks | false ↦ ks ])
  pick_each true k ks h r = (h refl, r)
  pick_each false k ks h r = r

  each_pick : (b : Bool) (k : ℕ) (ks : List ℕ) → Each P (elim b [ true ↦ k ∷ ks | false ↦ ks ]) → (b ≡ true → P k) × Each P ks
  each_pick true k ks r = (λ e. r.0, r.1)
  each_pick false k ks r = (λ e. absurd (true≢false (sym e)), r)

  pub keyed_each : (n k : ℕ) → ((j : ℕ) → k ≤ j → j < n + k → key j ≡ v → P j) → Each P (keyed key v n k)
  unfolding keyed
  keyed_each zero k h = tt
  keyed_each (suc n) k h =
      pick_each (eqb (key k) v) k (keyed key v n (k + 1)) (λ e. h k (omega arith) (omega arith) (eqb-true _ _ e))
      (keyed_each n (k + 1) (λ j a b e. h j (omega arith) (omega arith) e))

  pub each_keyed : (n k : ℕ) → Each P (keyed key v n k) → (j : ℕ) → k ≤ j → j < n + k → key j ≡ v → P j
  unfolding keyed
  each_keyed zero k r j a b e = absurd (omega arith)
  each_keyed (suc n) k r j a b e =
      let q = each_pick (eqb (key k) v) k (keyed key v n (k + 1)) r in
      ⊎_elim (λ z. rw z (q.0 (eq-eqb (key k) v (ap key (sym z) ∙ e)))) (λ z. each_keyed n (k + 1) q.1 j (omega arith) (omega arith) e)
      (eq_or_ne j k)

or_none : (a b : Bool) → (a || b) ≡ false → (a ≡ false) × (b ≡ false)
or_none true b e = absurd (true≢false e)
or_none false b e = (refl, e)

module _ (p : Plan) where
  -- ---- kept links
  abbrev pub kept : ℕ
  kept = length (kept_below p p.links)

  pub tie_ends : (t : ℕ) → t < kept → ((get_or (kept_links p) t no_link).from ≡ (tie p t).from) × ((get_or (kept_links p) t no_link).to ≡ (tie p t).to)
  unfolding tie_of
  tie_ends t l = let e = ends_at p p.links t l in (ap (λ (k : Link). k.from) e, ap (λ (k : Link). k.to) e)

  pub tie_linked : (t : ℕ) → t < kept → Linked (kept_links p) (tie p t).from (tie p t).to
  tie_linked t l = record { place = t; within = omega (arith, ends_length p p.links); leaves = (tie_ends t l).0; enters = (tie_ends t l).1 }

  pub tie_ends_kept : (t : ℕ) → t < kept → (summary p (tie p t).from ≡ false) × (summary p (tie p t).to ≡ false)
  unfolding ignored tie_of
  tie_ends_kept t l =
      let k = get_or (kept_below p p.links) t 0 in
      or_none (summary p (from_of p k)) (summary p (to_of p k)) ((kept_picked p p.links).has t l)

  module _ (P : ℕ → Type 0) (i : ℕ) where
    pub into_each : ((t : ℕ) → t < kept → (tie p t).to ≡ i → P t) → Each P (ties_into p i)
    unfolding incoming
    into_each h =
        keyed_each P (to_at (kept_links p)) i (length (kept_links p)) 0
        (λ t a b e. let l : t < kept = omega (arith, ends_length p p.links) in h t l (sym (tie_ends t l).1 ∙ e))

    pub each_into : Each P (ties_into p i) → (t : ℕ) → t < kept → (tie p t).to ≡ i → P t
    unfolding incoming
    each_into r t l e =
        each_keyed P (to_at (kept_links p)) i (length (kept_links p)) 0 r t (omega arith) (omega (arith, ends_length p p.links))
        ((tie_ends t l).1 ∙ e)

  -- ---- the work left
  left_step : (n : ℕ) (g : ℕ → ℕ) {f : ℕ → ℕ} → ((j : ℕ) → j < n → left_of p j ≡ Ok (g j))
      → (m : ℕ) × (left_of p n ≡ Ok m) × (leaves (put g n m) ≡ leaves f) → (j : ℕ) → j < suc n → left_of p j ≡ Ok (f j)
  left_step n g {f} h (m, e, z) j l =
      let y : put g n m ≡ f = cc in
      ⊎_elim (λ k. rw k (e ∙ ap Ok (sym (put_here g n m) ∙ ap (λ (x : ℕ → ℕ). x n) y)))
      (λ k. h j (omega arith) ∙ ap Ok (sym (put_there g n m j k) ∙ ap (λ (x : ℕ → ℕ). x j) y)) (eq_or_ne j n)

  pub left_of_lem : (n : ℕ) (f : ℕ → ℕ) → left_below p n ≡ leaves f → (j : ℕ) → j < n → left_of p j ≡ Ok (f j)
  unfolding left_below
  left_of_lem zero f e = λ j l. absurd (omega arith)
  left_of_lem (suc n) f e = by (left_of_lem n) (left_below p n) refl e
    where
      by : ((g : ℕ → ℕ) → left_below p n ≡ leaves g → (j : ℕ) → j < n → left_of p j ≡ Ok (g j)) → (x : Pass (ℕ → ℕ)) → left_below p n ≡ x
          → elim x [ leaves f ↦ via refused (left_of p n) (λ m. leaves (put f n m)) | refused k ↦ refused k ] ≡ leaves f
          → (j : ℕ) → j < suc n → left_of p j ≡ Ok (f j)
      by rest (leaves g) q e = left_step n g (rest g q) (via_leaves (left_of p n) (λ m. leaves (put g n m)) f e)
      by rest (refused k) q e = let z : ◌≡◌ {A = ℕ} 0 1 = cc in absurd (omega arith)

  pub left_full : (j : ℕ) {m : ℕ} → recorded p j ≡ Ok Unstarted → left_of p j ≡ Ok m → m ≡ full p j
  unfolding left_of
  left_full j e h = let f = ap (left_by p j) e in cc

  -- ---- what a step leaves alone
  pub record Same (x y : Early) (j : ℕ) : Type 0 where
    pub es : x.es j ≡ y.es j
    pub ef : x.ef j ≡ y.ef j
    pub left : x.left j ≡ y.left j

  same_trans : {x y z : Early} {j : ℕ} → Same x y j → Same y z j → Same x z j
  same_trans a b = record { es = a.es ∙ b.es; ef = a.ef ∙ b.ef; left = a.left ∙ b.left }

  step_same : (x y : Early) (i j : ℕ) → forward p x i ≡ leaves y → j ≢ i → Same y x j
  step_same x y i j e n =
      let c = step_changes p x y i e in
      rw c.gives (record {
        es = put_there x.es i c.s j n;
        ef = put_there x.ef i c.f j n;
        left = put_there x.left i c.m j n;
      })

  module _ (xs : List ℕ) (x y : Early) (t : Trace (forward p) xs x y) (j : ℕ) where
    pub same_between : (q r : ℕ) → q ≤ r → r ≤ length xs → ((k : ℕ) → q ≤ k → k < r → get_or xs k 0 ≢ j) → Same (t.at r) (t.at q) j
    same_between q zero l b h = let z : q ≡ 0 = omega arith in rw z (record { es = refl; ef = refl; left = refl })
    same_between q (suc r) l b h =
        ⊎_elim (λ k. let z : q ≡ suc r = omega arith in rw z (record { es = refl; ef = refl; left = refl }))
        (λ k.
        same_trans
        (step_same (t.at r) (t.at (suc r)) (get_or xs r 0) j (t.steps r (omega arith)) (λ e. h r (omega arith) (omega arith) (sym e)))
        (same_between q r k (omega arith) (λ m a c. h m a (omega arith)))) (lt_or_le r q)
