-- Demand 3, the early starts: for a plan that fits and whose forward pass is not refused they obey the timetable rules, and in every timetable that
-- does each activity starts at that minute or later.
use Rattle.std.specs.Prelude.{◌≡◌, refl, true, false, ◌⊎◌, ℕ, zero, suc, ◌^◌, ◌≤◌, ◌<◌, length, get_or, ℤ, pos, Result}
use Rattle.worktime.specs.declared.ClockError.{ClockError}
use Rattle.std.proofs.Common.{sym, ap, subst, ◌∙◌, inl, inr, ⊎_elim, arith}
use Rattle.std.specs.Int.Signed.{le_z}
use Rattle.number.specs.ZedLaws.{le_le_z, minus_is}
use Rattle.date.specs.Days.{midnight, signed_minute}
use Rattle.worktime.specs.Relations.{advance_mono}
use Rattle.project.specs.declared.ActivityKind.TheVariants.{FinishMilestone}
use Rattle.network.specs.Links.{Ordered}
use Rattle.network.specs.Placed.{ordered_place}
use Rattle.placing.specs.declared.Actual.{Actual}
use Rattle.order.specs.Plan.{Plan}
use Rattle.order.specs.Ids.{summary}
use Rattle.order.specs.Ties.{kept_links}
use Rattle.order.specs.Checks.{checked, order}
use Rattle.order.proofs.FineLaws.{plan_fine_lem}
use Rattle.order.specs.TieLaws.{ends_length, kept_ranged}
use Rattle.order.proofs.LoopLaws.{fine_passes, fine_ordered}
use Rattle.passes.specs.Plan.{own, tie, kind_of, recorded, begun, full}
use Rattle.passes.specs.Dates.{Early, leaves}
use Rattle.passes.specs.Forward.{early, forward}
use Rattle.passes.specs.Run.{remaining, early₀, forward_pass}
use Rattle.timetable.specs.Rules.{CompletedAt, Placed, Held, UnlessCompleted, Obeyed, Obeys}
use Rattle.timetable.specs.Fit.{Fit}
use Rattle.timetable.proofs.StepLaws.{put_here, completed_any, completed_unique, completed_unless, Sort, fresh, done, fresh_step, recorded_actual, step_sort}
use Rattle.timetable.proofs.PassLaws.{Trace, through_trace, kept, tie_ends, tie_linked, tie_ends_kept, left_of_lem, left_full, Same, same_between}
use Rattle.timetable.proofs.LeastLaws.{Least, Fixed, LinksHold, earlier_held, held_of, of_held, fresh_rule, rule_fresh, fresh_unless, unless_fresh, step_least}

-- a finish milestone has no minutes, as the sheet's fields say
abbrev pub Momentary : Plan → Type 0
Momentary p = (i : ℕ) → i < p.activities → kind_of p i ≡ FinishMilestone → full p i ≡ 0

signed_le : {a b : ℕ} → a ≤ b → le_z (signed_minute a) (signed_minute b) ≡ true
signed_le {a} {b} l =
    le_le_z (signed_minute a) (signed_minute b)
    (omega (arith, minus_is (pos a) (pos (midnight (2 ^ 31))), minus_is (pos b) (pos (midnight (2 ^ 31)))))

module _ (p : Plan) where
  -- ---- the pass
  module _ (fine : (checked p).number ≡ 0) (fit : Fit p) (momentary : Momentary p) (left : ℕ → ℕ) (d : Early)
      (el : remaining p ≡ leaves left) (ed : forward_pass p left ≡ leaves d) where
    ordered : Ordered (kept_links p) p.activities (order p)
    ordered = fine_ordered p fine

    trace : Trace (forward p) (order p) (early₀ p left) d
    unfolding forward_pass
    trace = through_trace (forward p) (order p) (early₀ p left) d ed

    long : length (order p) ≡ p.activities
    long = ordered.all

    -- the q-th step, which is activity i's
    record Turn (i : ℕ) : Type 0 where
      pub q : ℕ
      pub within : q < p.activities
      pub is : get_or (order p) q 0 ≡ i
      pub step : forward p (trace.at q) i ≡ leaves (trace.at (suc q))

    turn : (i : ℕ) → i < p.activities → Turn i
    turn i l =
        let r = ordered_place ordered i l in
        record { q = r.0; within = r.1; is = r.2; step = rw r.2 at (trace.steps r.0 (omega (arith, long, r.1))) }

    -- its dates stand from then on
    stands : (i : ℕ) (t : Turn i) (r : ℕ) → t.q < r → r ≤ p.activities → Same p d (trace.at r) i
    stands i t r a b =
        subst (λ (z : Early). Same p z (trace.at r) i) trace.ends
        (same_between p (order p) (early₀ p left) d trace i r (length (order p)) (omega (arith, long)) (omega arith)
        (λ k c e z. let h = ordered.once k t.q (omega (arith, long)) t.within (z ∙ sym t.is) in omega arith))

    -- and what is left of it stands before
    untouched : (i : ℕ) (t : Turn i) → (trace.at t.q).left i ≡ left i
    untouched i t =
        (same_between p (order p) (early₀ p left) d trace i 0 t.q (omega arith) (omega (arith, long, t.within))
        (λ k c e z. let h = ordered.once k t.q (omega (arith, t.within)) t.within (z ∙ sym t.is) in omega arith)).left
        ∙ ap (λ (x : Early). x.left i) trace.starts

    -- the dates that its step gives
    given : (i : ℕ) (t : Turn i) (s f m : ℕ) → trace.at (suc t.q) ≡ early p (trace.at t.q) i s f m → (d.es i ≡ s) × (d.ef i ≡ f)
    given i t s f m e =
        let h = stands i t (suc t.q) (omega arith) (omega (arith, t.within)) in (
          h.es ∙ ap (λ (x : Early). x.es i) e ∙ put_here (trace.at t.q).es i s,
          h.ef ∙ ap (λ (x : Early). x.ef i) e ∙ put_here (trace.at t.q).ef i f,
        )

    turn_sort : (i : ℕ) (t : Turn i) → i < p.activities → summary p i ≡ false
        → Sort p (trace.at t.q) (trace.at (suc t.q)) i (p.activity i).actual_start (p.activity i).actual_finish
    turn_sort i t l z = step_sort p (trace.at t.q) (trace.at (suc t.q)) i l z fit t.step

    -- links count from its early start, begun or not
    begun_is : (i : ℕ) (t : Turn i) → i < p.activities → summary p i ≡ false → begun p (recorded p i) (d.es i) ≡ d.es i
    begun_is i t l z = by (turn_sort i t l z)
      where
        by : Sort p (trace.at t.q) (trace.at (suc t.q)) i (p.activity i).actual_start (p.activity i).actual_finish
            → begun p (recorded p i) (d.es i) ≡ d.es i
        by (fresh a y m h) = ap (λ (x : Result Actual ClockError). begun p x (d.es i)) (recorded_actual p i z ∙ a)
        by (done s f a c g) =
            ap (λ (x : Result Actual ClockError). begun p x (d.es i)) (recorded_actual p i z ∙ a) ∙ sym (given i t s f ((trace.at t.q).left i) g).0

    -- the predecessors' dates stand when i's step comes
    preds : (i : ℕ) (t : Turn i) (k : ℕ) → k < kept p → (tie p k).to ≡ i
        → (begun p (recorded p (tie p k).from) ((trace.at t.q).es (tie p k).from) ≡ d.es (tie p k).from)
        × ((trace.at t.q).ef (tie p k).from ≡ d.ef (tie p k).from)
    preds i t k l e =
        let j = (tie p k).from in
        let b = ordered.before t.q j t.within (rw (e ∙ sym t.is) at (tie_linked p k l)) in
        let m : b.0 < p.activities = omega (arith, b.1, t.within) in
        let u : Turn j = record { q = b.0; within = m; is = b.2; step = rw b.2 at (trace.steps b.0 (omega (arith, long))) } in
        let h = stands j u t.q b.1 (omega (arith, t.within)) in
        let n : j < p.activities = omega (arith, ordered.below b.0 m, b.2) in
        (ap (begun p (recorded p j)) (sym h.es) ∙ begun_is j u n (tie_ends_kept p k l).0, sym h.ef)

    result : (i : ℕ) → i < p.activities → summary p i ≡ false → Least p d.es d.ef i ⊎ Fixed p d.es d.ef i
    result i l z = by (turn i l)
      where
        split : (t : Turn i) → Sort p (trace.at t.q) (trace.at (suc t.q)) i (p.activity i).actual_start (p.activity i).actual_finish
            → Least p d.es d.ef i ⊎ Fixed p d.es d.ef i
        split t (fresh a y m h) =
            let S = fresh_step p (trace.at t.q) (trace.at (suc t.q)) i z m h in
            let g = given i t S.s S.f ((trace.at t.q).left i) S.gives in
            inl (step_least p d (trace.at t.q) (trace.at (suc t.q)) i S z m y g.0 g.1
            (untouched i t ∙ left_full p i (recorded_actual p i z ∙ a) (left_of_lem p p.activities left el i l)) (momentary i l) (preds i t))
        split t (done s f a c g) =
            let e = given i t s f ((trace.at t.q).left i) g in
            inr (record { recorded = rw (e.0, e.1) c })

        by : Turn i → Least p d.es d.ef i ⊎ Fixed p d.es d.ef i
        by t = split t (turn_sort i t l z)

    -- ---- they obey the rules
    tie_in_lem : (t : ℕ) → t < kept p → (tie p t).to < p.activities
    tie_in_lem t l =
        let r = kept_ranged p ((plan_fine_lem p).0 (fine_passes p fine)).links in
        omega (arith, r.enters t (omega (arith, ends_length p p.links)), (tie_ends p t l).1)

    pub early_obeyed : Obeyed p d.es d.ef
    early_obeyed = record { activities = each; links = link }
      where
        each : (i : ℕ) → i < p.activities → summary p i ≡ false
            → CompletedAt p i (p.activity i).actual_start (p.activity i).actual_finish (d.es i) (d.ef i) (Placed p i (d.es i) (d.ef i))
        each i l z =
            ⊎_elim
            (λ k.
            rule_fresh p i (p.activity i).actual_start (p.activity i).actual_finish (d.es i) (d.ef i) (Placed p i (d.es i) (d.ef i)) k.unfinished
            (record {
              may = k.may;
              floored = k.floored;
              advanced = k.advanced;
              first = k.meets.first;
              second = k.meets.second;
              levelled = k.meets.third;
            }))
            (λ k.
            completed_any p i (p.activity i).actual_start (p.activity i).actual_finish (d.es i) (d.ef i) (Placed p i (d.es i) (d.ef i))
            k.recorded) (result i l z)

        link : (t : ℕ) → t < kept p → UnlessCompleted p (p.activity (tie p t).to).actual_finish (Held p (tie p t) d.es d.ef)
        link t l =
            let i = (tie p t).to in
            ⊎_elim
            (λ k.
            unless_fresh p (p.activity i).actual_finish (Held p (tie p t) d.es d.ef) k.unfinished
            (of_held p (tie p t) d.es d.ef (k.links t l refl)))
            (λ k.
            completed_unless p i (p.activity i).actual_start (p.activity i).actual_finish (d.es i) (d.ef i) (Held p (tie p t) d.es d.ef)
            k.recorded) (result i (tie_in_lem t l) (tie_ends_kept p t l).1)

    -- ---- and no timetable that obeys them is earlier anywhere
    module _ (s f : ℕ → ℕ) (o : Obeyed p s f) where
      abbrev NotLater : ℕ → Type 0
      NotLater i = (d.es i ≤ s i) × (d.ef i ≤ f i)

      not_later : (i q : ℕ) → q < p.activities → get_or (order p) q 0 ≡ i → summary p i ≡ false
          → ((j r : ℕ) → r < q → get_or (order p) r 0 ≡ j → summary p j ≡ false → NotLater j) → NotLater i
      not_later i q b e z before = ⊎_elim least fixed (result i l z)
        where
          l : i < p.activities
          l = omega (arith, ordered.below q b, e)

          fixed : Fixed p d.es d.ef i → NotLater i
          fixed k =
              let h =
              completed_unique p i (p.activity i).actual_start (p.activity i).actual_finish (d.es i) (d.ef i) (s i) (f i) (Placed p i (s i) (f i))
              k.recorded (o.activities i l z) in
              omega arith

          link : Least p d.es d.ef i → LinksHold p d.es d.ef i (s i) (f i)
          link k t m a =
              let j = (tie p t).from in
              let r = ordered.before q j b (rw (a ∙ sym e) at (tie_linked p t m)) in
              let h = before j r.0 r.1 r.2 (tie_ends_kept p t m).0 in
              let c : Held p (tie p t) s f =
              fresh_unless p (p.activity (tie p t).to).actual_finish (Held p (tie p t) s f)
              (ap (λ (x : ℕ). (p.activity x).actual_finish) a ∙ k.unfinished) (o.links t m) in
              earlier_held p (tie p t) i (d.es j) (d.ef j) (s j) (f j) h.0 h.1 (k.links t m a) (held_of p (tie p t) i s f a c)

          least : Least p d.es d.ef i → NotLater i
          least k =
              let c : Placed p i (s i) (f i) =
              fresh_rule p i (p.activity i).actual_start (p.activity i).actual_finish (s i) (f i) (Placed p i (s i) (f i)) k.unfinished
              (o.activities i l z) in
              let h : d.es i ≤ s i =
              k.least (s i) (f i) c.may c.advanced c.floored (record { first = c.first; second = c.second; third = c.levelled }) (link k) in
              (h, advance_mono (own p i) h k.advanced c.advanced)

      below : (b i q : ℕ) → q < b → q < p.activities → get_or (order p) q 0 ≡ i → summary p i ≡ false → NotLater i
      below zero i q a l e z = absurd (omega arith)
      below (suc b) i q a l e z = not_later i q l e z (λ j r c g y. below b j r (omega arith) (omega arith) g y)

      pub early_least : (i : ℕ) → i < p.activities → summary p i ≡ false → d.es i ≤ s i
      early_least i l z = let r = ordered_place ordered i l in (below (suc r.0) i r.0 (omega arith) r.1 r.2 z).0

    -- ---- in signed minutes
    pub early_obeys : Obeys p (λ i. signed_minute (d.es i))
    early_obeys = record { s = d.es; f = d.ef; minutes = λ i l z. refl; obeyed = early_obeyed }

    pub early_first : (start : ℕ → ℤ) → Obeys p start → (i : ℕ) → i < p.activities → summary p i ≡ false
        → le_z (signed_minute (d.es i)) (start i) ≡ true
    early_first start o i l z = rw (o.minutes i l z) (signed_le (early_least o.s o.f o.obeyed i l z))
