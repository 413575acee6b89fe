-- One activity that fits, where its predecessors have their dates: its early start is the least that its rules allow, and earlier predecessors only
-- allow more.
use Rattle.std.specs.Prelude.{◌≡◌, Bool, false, ℕ, ◌≤◌, ◌<◌, Option, Some, None}
use Rattle.date.specs.declared.Date.{Date}
use Rattle.std.proofs.Common.{sym, ◌∙◌, arith}
use Rattle.worktime.specs.Worked.{IsAdvance}
use Rattle.worktime.specs.Count.{count_mono}
use Rattle.project.specs.declared.ActivityKind.{ActivityKind}
use Rattle.project.specs.declared.ActivityKind.TheVariants.{Task, StartMilestone, FinishMilestone}
use Rattle.project.specs.declared.RelationshipType.{RelationshipType}
use Rattle.project.specs.declared.RelationshipType.TheVariants.{FinishToStart, StartToStart, FinishToFinish, StartToFinish}
use Rattle.order.specs.Plan.{Plan}
use Rattle.order.specs.Ids.{summary}
use Rattle.order.specs.Ties.{Tie}
use Rattle.passes.specs.Plan.{own, lag_own, tie, ties_into, kind_of, floor, recorded, begun, full}
use Rattle.passes.specs.Dates.{Early}
use Rattle.passes.specs.Forward.{source_of}
use Rattle.timetable.specs.Rules.{MayStart, FinishBound, Bounds, CompletedAt, Held, UnlessCompleted}
use Rattle.timetable.specs.Fit.{Marks}
use Rattle.timetable.specs.WalkLaws.{shift_mono}
use Rattle.timetable.proofs.BoundLaws.{Starts, HeldBy, HeldAt, MeetsAll, raised_bound, held_bound}
use Rattle.timetable.proofs.StepLaws.{FreshStep}
use Rattle.timetable.proofs.PassLaws.{kept, into_each, each_into}

-- ---- an earlier bound is a lesser one
module _ (w : ℕ → Bool) where
  earlier_finish : (kind : ActivityKind) (b b' g : ℕ) → b ≤ b' → FinishBound w kind b' g → FinishBound w kind b g
  earlier_finish Task b b' g l h = omega (arith, count_mono w l)
  earlier_finish StartMilestone b b' g l h = omega (arith, count_mono w l)
  earlier_finish FinishMilestone b b' g l h = omega arith

  earlier_bound : (kind : ActivityKind) (link : RelationshipType) (b b' v g : ℕ) → b ≤ b' → Bounds w kind link b' v g → Bounds w kind link b v g
  earlier_bound kind FinishToStart b b' v g l h = omega arith
  earlier_bound kind StartToStart b b' v g l h = omega arith
  earlier_bound kind FinishToFinish b b' v g l h = earlier_finish kind b b' g l h
  earlier_bound kind StartToFinish b b' v g l h = earlier_finish kind b b' g l h

module _ (p : Plan) where
  earlier_source : (link : RelationshipType) (s f s' f' : ℕ) → s ≤ s' → f ≤ f' → source_of p link s f ≤ source_of p link s' f'
  earlier_source FinishToStart s f s' f' a b = b
  earlier_source StartToStart s f s' f' a b = a
  earlier_source FinishToFinish s f s' f' a b = b
  earlier_source StartToFinish s f s' f' a b = a

  -- a link that holds for a predecessor holds for an earlier one, where the earlier one's lagged time is known
  pub earlier_held : (t : Tie) (i s f s' f' : ℕ) {v g v' g' : ℕ} → s ≤ s' → f ≤ f' → HeldBy p t i s f v g → HeldBy p t i s' f' v' g' → HeldBy p t i s f v' g'
  earlier_held t i s f s' f' {v' = v} {g' = g} a b h h' = record {
    lagged = h.lagged;
    shifted = h.shifted;
    bound =
        earlier_bound (own p i) (kind_of p i) t.kind h.lagged h'.lagged v g
        (shift_mono (lag_own p t) (source_of p t.kind s f) (source_of p t.kind s' f') h.lagged h'.lagged t.lag
        (earlier_source t.kind s f s' f' a b) h.shifted h'.shifted) h'.bound;
  }

  pub held_of : (t : Tie) (i : ℕ) (s f : ℕ → ℕ) → t.to ≡ i → Held p t s f → HeldBy p t i (s t.from) (f t.from) (s i) (f i)
  held_of t i s f e h = record { lagged = h.lagged; shifted = h.shifted; bound = rw e at h.bound }

  pub of_held : (t : Tie) (s f : ℕ → ℕ) → HeldBy p t t.to (s t.from) (f t.from) (s t.to) (f t.to) → Held p t s f
  of_held t s f h = record { lagged = h.lagged; shifted = h.shifted; bound = h.bound }

  -- what is not completed
  pub fresh_rule : (i : ℕ) (x y : Option Date) (s f : ℕ) (R : Type 0) → y ≡ None → CompletedAt p i x y s f R → R
  fresh_rule i x None s f R e c = c
  fresh_rule i x (Some a) s f R e c = let z : ◌≡◌ {A = ℕ} 0 1 = cc in absurd (omega arith)

  pub rule_fresh : (i : ℕ) (x y : Option Date) (s f : ℕ) (R : Type 0) → y ≡ None → R → CompletedAt p i x y s f R
  rule_fresh i x None s f R e c = c
  rule_fresh i x (Some a) s f R e c = let z : ◌≡◌ {A = ℕ} 0 1 = cc in absurd (omega arith)

  pub fresh_unless : (y : Option Date) (R : Type 0) → y ≡ None → UnlessCompleted p y R → R
  fresh_unless None R e c = c
  fresh_unless (Some a) R e c = let z : ◌≡◌ {A = ℕ} 0 1 = cc in absurd (omega arith)

  pub unless_fresh : (y : Option Date) (R : Type 0) → y ≡ None → R → UnlessCompleted p y R
  unless_fresh None R e c = c
  unless_fresh (Some a) R e c = tt

  -- ---- one activity, where its predecessors have the dates es and ef
  -- the links into i hold of a start v with finish g
  abbrev pub LinksHold : (es ef : ℕ → ℕ) → ℕ → ℕ → ℕ → Type 0
  LinksHold es ef i v g = (t : ℕ) → t < kept p → (tie p t).to ≡ i → HeldBy p (tie p t) i (es (tie p t).from) (ef (tie p t).from) v g

  pub record Least (es ef : ℕ → ℕ) (i : ℕ) : Type 0 where
    pub unfinished : (p.activity i).actual_finish ≡ None
    pub may : MayStart (own p i) (kind_of p i) (es i)
    pub advanced : IsAdvance (own p i) (es i) (full p i) (ef i)
    pub floored : floor p ≤ es i
    pub meets : MeetsAll p i (es i) (ef i)
    pub links : LinksHold es ef i (es i) (ef i)
    pub least : (v g : ℕ) → MayStart (own p i) (kind_of p i) v → IsAdvance (own p i) v (full p i) g → floor p ≤ v → MeetsAll p i v g
        → LinksHold es ef i v g → es i ≤ v

  pub record Fixed (es ef : ℕ → ℕ) (i : ℕ) : Type 0 where
    pub recorded : CompletedAt p i (p.activity i).actual_start (p.activity i).actual_finish (es i) (ef i) ⊥

  held_dates : (t : Tie) (i : ℕ) {s f s' f' v g : ℕ} → s ≡ s' → f ≡ f' → HeldBy p t i s f v g → HeldBy p t i s' f' v g
  held_dates t i a b h = rw a at (rw b at h)

  pub step_least : (d x y : Early) (i : ℕ) (S : FreshStep p x y i) → summary p i ≡ false → Marks p i → (p.activity i).actual_finish ≡ None
      → d.es i ≡ S.s → d.ef i ≡ S.f → x.left i ≡ full p i → (kind_of p i ≡ FinishMilestone → full p i ≡ 0)
      → ((t : ℕ) → t < kept p → (tie p t).to ≡ i
      → (begun p (recorded p (tie p t).from) (x.es (tie p t).from) ≡ d.es (tie p t).from) × (x.ef (tie p t).from ≡ d.ef (tie p t).from))
      → Least d.es d.ef i
  step_least d x y i S z m u es ef n k preds =
      let starts : Starts (own p i) (kind_of p i) (x.left i) S.s S.f =
      record { may = S.place.may; advanced = S.finish; moment = λ e. n ∙ k e } in
      let h = (held_bound p x i starts z m.first m.second S.r₀ S.holds).1 S.place.after in
      let r = (raised_bound p x i starts (ties_into p i) (floor p) S.r₀ S.raises).1 h.0 in
      record {
        unfinished = u;
        may = rw es S.place.may;
        advanced = rw (es, ef, ← n) S.finish;
        floored = rw es r.0;
        meets = rw (es, ef) h.1;
        links = λ t l e.
            rw (es, ef)
            (held_dates (tie p t) i (preds t l e).0 (preds t l e).1 (each_into p (HeldAt p x i S.s S.f) i r.1 t l e));
        least = λ v g a b c q w. rw es (earliest v g a b c q w);
      }
    where
      earliest : (v g : ℕ) → MayStart (own p i) (kind_of p i) v → IsAdvance (own p i) v (full p i) g → floor p ≤ v → MeetsAll p i v g
          → LinksHold d.es d.ef i v g → S.s ≤ v
      earliest v g a b c q w =
          let starts : Starts (own p i) (kind_of p i) (x.left i) v g = record { may = a; advanced = rw n b; moment = λ e. n ∙ k e } in
          S.place.least v a
          ((held_bound p x i starts z m.first m.second S.r₀ S.holds).0 (
            (raised_bound p x i starts (ties_into p i) (floor p) S.r₀ S.raises).0 (
              c,
              into_each p (HeldAt p x i v g) i (λ t l e. held_dates (tie p t) i (sym (preds t l e).0) (sym (preds t l e).1) (w t l e)),
            ),
            q,
          ))
