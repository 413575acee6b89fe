-- A rule holds of a start and its finish just where the start that the forward pass takes for it is not later.
use Rattle.std.specs.Prelude.{◌≡◌, refl, Bool, true, false, ◌⊎◌, ◌↔◌, Result, Ok, Err, Option, Some, None}
use Rattle.worktime.specs.declared.ClockError.{ClockError}
use Rattle.std.proofs.Math.Path.{sym}
use Rattle.std.proofs.Common.{ap, ◌∙◌, inl, inr, ⊎_elim}
use mathlib.Core.List.{List, [], ◌∷◌}
use Prim.Native.Nat.{ℕ, zero, suc, ◌≤◌, max}
use native.Mathlib.Omega.{arith}
use Rattle.date.specs.declared.Date.{Date}
use Rattle.worktime.specs.Walks.{shift}
use Rattle.worktime.specs.Worked.{count, IsPreviousFinish, IsAdvance}
use Rattle.worktime.specs.Count.{start_le}
use Rattle.worktime.specs.Relations.{previous_finish_unique}
use Rattle.worktime.specs.Adjoint.{finish_galois}
use Rattle.worktime.specs.Reads.{on_false}
use Rattle.project.specs.declared.ActivityKind.{ActivityKind}
use Rattle.project.specs.declared.ActivityKind.TheVariants.{Task, StartMilestone, FinishMilestone}
use Rattle.project.specs.declared.Constraint.{Constraint}
use Rattle.project.specs.declared.Constraint.TheVariants.{StartOnOrAfter, StartOnOrBefore, FinishOnOrAfter, FinishOnOrBefore, StartOn, FinishOn, MandatoryStart, MandatoryFinish, AsLateAsPossible}
use Rattle.project.specs.declared.RelationshipType.{RelationshipType}
use Rattle.project.specs.declared.RelationshipType.TheVariants.{FinishToStart, StartToStart, FinishToFinish, StartToFinish}
use Rattle.project.specs.declared.End.TheVariants.{Start, Finish}
use Rattle.project.specs.Status.{on_start}
use Rattle.placing.specs.Placing.{via, bounded, midnight_of, start_for_finish, day_start, constraint_time}
use Rattle.order.specs.Plan.{Plan}
use Rattle.order.specs.Ids.{summary}
use Rattle.order.specs.Ties.{Tie}
use Rattle.passes.specs.Plan.{evening, own, lag_own, tie, kind_of, origin, recorded, begun}
use Rattle.passes.specs.Dates.{Early}
use Rattle.passes.specs.Forward.{source_of, forward_bound, start_for, link_bound, link_start, raised, on_time, constrained, levelled, held}
use Rattle.timetable.specs.Rules.{IsShift, MayStart, FinishBound, Bounds, FinishDate, Meets, MeetsLevelled}
use Rattle.timetable.specs.Fit.{Mild}
use Rattle.timetable.specs.WalkLaws.{via_answers, bounded_at, shift_sound, shift_unique, start_time, finish_time, start_somewhere, finish_somewhere, start_for_moment, start_for_work}

-- work of a kind may start at v, and n minutes of it end at g; a finish milestone has none
pub record Starts (w : ℕ → Bool) (kind : ActivityKind) (n v g : ℕ) : Type 0 where
  pub may : MayStart w kind v
  pub advanced : IsAdvance w v n g
  pub moment : kind ≡ FinishMilestone → n ≡ 0

-- ---- a bound on the finish
module _ (w : ℕ → Bool) where
  worked_bound : (n b : ℕ) {x v g : ℕ} → w v ≡ true → IsAdvance w v n g → start_for_finish w n b ≡ Ok x → (count w b ≤ count w g) ↔ (x ≤ v)
  worked_bound zero b {x} {v} {g} h a e =
      let c = start_le w {t = b} h in
      let s = start_for_moment w b e in
      let f = ap (count w) (a.still refl) in
      (λ l. let r = c.1 (omega arith) in omega arith, λ l. let r = c.0 (omega arith) in omega arith)
  worked_bound (suc n) b h a e = let r = start_for_work w (suc n) b (omega arith) e in finish_galois w h (omega arith) a r.1 r.2

  still_bound : (n b : ℕ) {x v g : ℕ} → n ≡ 0 → IsAdvance w v n g → start_for_finish w n b ≡ Ok x → (b ≤ g) ↔ (x ≤ v)
  still_bound zero b z a e = let s = start_for_moment w b e in let f = a.still refl in (λ l. omega arith, λ l. omega arith)
  still_bound (suc n) b z a e = absurd (omega arith)

  pub finish_bound_lem : (kind : ActivityKind) (n b : ℕ) {x v g : ℕ} → Starts w kind n v g → start_for_finish w n b ≡ Ok x
      → FinishBound w kind b g ↔ (x ≤ v)
  finish_bound_lem Task n b c e = worked_bound n b c.may c.advanced e
  finish_bound_lem StartMilestone n b c e = worked_bound n b c.may c.advanced e
  finish_bound_lem FinishMilestone n b c e = still_bound n b (c.moment refl) c.advanced e

-- what holds of each of a row
abbrev pub Each : (ℕ → Type 0) → List ℕ → Type 0
Each P [] = Unit {0}
Each P (t ∷ ts) = P t × Each P ts

module _ (p : Plan) where
  -- a tie bounds activity i, which starts at v and ends at g, where its predecessor starts at s and ends at f
  pub record HeldBy (t : Tie) (i s f v g : ℕ) : Type 0 where
    pub lagged : ℕ
    pub shifted : IsShift (lag_own p t) (source_of p t.kind s f) t.lag lagged
    pub bound : Bounds (own p i) (kind_of p i) t.kind lagged v g

  -- both constraints and the levelled start of activity i
  pub record MeetsAll (i v g : ℕ) : Type 0 where
    pub first : Meets p i (p.activity i).constraint v g
    pub second : Meets p i (p.activity i).secondary_constraint v g
    pub third : MeetsLevelled p i (p.activity i).levelled v

  start_bound : (i n b : ℕ) (kind : RelationshipType) {x v g : ℕ} → Starts (own p i) (kind_of p i) n v g → start_for p i n kind b ≡ Ok x
      → Bounds (own p i) (kind_of p i) kind b v g ↔ (x ≤ v)
  start_bound i n b FinishToStart {x} c e = let z : b ≡ x = cc in (λ l. omega arith, λ l. omega arith)
  start_bound i n b StartToStart {x} c e = let z : b ≡ x = cc in (λ l. omega arith, λ l. omega arith)
  start_bound i n b FinishToFinish c e = finish_bound_lem (own p i) (kind_of p i) n b c e
  start_bound i n b StartToFinish c e = finish_bound_lem (own p i) (kind_of p i) n b c e

  module _ (d : Early) where
    -- the t-th kept link with the dates that the pass has so far
    abbrev pub HeldAt : ℕ → ℕ → ℕ → ℕ → Type 0
    HeldAt i v g t =
        HeldBy (tie p t) i (begun p (recorded p (tie p t).from) (d.es (tie p t).from)) (d.ef (tie p t).from) v g

    module _ (i : ℕ) {v g : ℕ} (c : Starts (own p i) (kind_of p i) (d.left i) v g) where
      -- ---- links
      pub link_bound_lem : (t : ℕ) {x : ℕ} → link_start p d i t ≡ Ok x → HeldAt i v g t ↔ (x ≤ v)
      unfolding forward_bound
      link_bound_lem t {x} e =
          let k = tie p t in
          let es = begun p (recorded p k.from) (d.es k.from) in
          let ef = d.ef k.from in
          let a = via_answers (link_bound p d t) (start_for p i (d.left i) k.kind) x e in
          let b = via_answers (shift (lag_own p k) (source_of p k.kind es ef) k.lag) (bounded (origin p)) a.0 a.1 in
          let z : a.0 ≡ b.0 = bounded_at (origin p) b.0 b.2 in
          let s = shift_sound (lag_own p k) (source_of p k.kind es ef) b.0 k.lag b.1 in
          let r = start_bound i (d.left i) a.0 k.kind c a.2 in (
            λ h. r.0 (rw (z ∙ shift_unique (lag_own p k) (source_of p k.kind es ef) b.0 h.lagged k.lag s h.shifted) h.bound),
            λ l. record { lagged = a.0; shifted = rw z s; bound = r.1 l },
          )

      pub raised_bound : (ts : List ℕ) (a b : ℕ) → raised p d i ts a ≡ Ok b → ((a ≤ v) × Each (HeldAt i v g) ts) ↔ (b ≤ v)
      unfolding raised
      raised_bound [] a b e = let z : a ≡ b = cc in (λ h. omega arith, λ l. (omega arith, tt))
      raised_bound (t ∷ ts) a b e =
          let r = via_answers (link_start p d i t) (λ s. raised p d i ts (max a s)) b e in
          let k = link_bound_lem t r.1 in
          let q = raised_bound ts (max a r.0) b r.2 in (
            λ h. let l = k.0 h.1.0 in let m = h.0 in q.0 (omega arith, h.1.1),
            λ l. let h = q.1 l in let m = h.0 in (omega arith, (k.1 (omega arith), h.1)),
          )

      -- ---- constraints
      on_time_lem : (m : Result (Option ℕ) ClockError) (x : Result ℕ ClockError) (go : ℕ → Result ℕ ClockError) {b : ℕ} → on_time p d m x go ≡ Ok b
          → ((t : ℕ) × (m ≡ (Ok (Some t))) × (go t ≡ Ok b)) ⊎ ((m ≡ (Ok None)) × (x ≡ Ok b))
      on_time_lem (Ok (Some t)) x go {b} e =
          let r = via_answers (bounded (origin p) t) go b e in
          let z : r.0 ≡ t = bounded_at (origin p) t r.1 in
          inl (t, refl, ap go (sym z) ∙ r.2)
      on_time_lem (Ok None) x go e = inr (refl, e)
      on_time_lem (Err k) x go e = let z : ◌≡◌ {A = ℕ} 0 1 = cc in absurd (omega arith)

      on_start_lem : (x : Date) (y : Result ℕ ClockError) (go : ℕ → Result ℕ ClockError) {b : ℕ} → on_time p d (constraint_time (own p i) (Some (Start x))) y go ≡ Ok b
          → go (day_start (own p i) (midnight_of x)) ≡ Ok b
      on_start_lem x y go e =
          ⊎_elim (λ r. ap go (sym (start_time (own p i) x r.1)) ∙ r.2) (λ r. absurd (start_somewhere (own p i) x r.0))
          (on_time_lem (constraint_time (own p i) (Some (Start x))) y go e)

      on_finish : (x : Date) (y : Result ℕ ClockError) (go : ℕ → Result ℕ ClockError) {b : ℕ} → on_time p d (constraint_time (own p i) (Some (Finish x))) y go ≡ Ok b
          → (t : ℕ) × IsPreviousFinish (own p i) (evening (midnight_of x)) t × (go t ≡ Ok b)
      on_finish x y go e =
          ⊎_elim (λ r. (r.0, finish_time (own p i) x r.1, r.2)) (λ r. absurd (finish_somewhere (own p i) x r.0))
          (on_time_lem (constraint_time (own p i) (Some (Finish x))) y go e)

      start_date : (x : Date) (a : ℕ) {b : ℕ} → on_time p d (constraint_time (own p i) (Some (Start x))) (Ok a) (λ t. Ok (max a t)) ≡ Ok b
          → ((a ≤ v) × (day_start (own p i) (midnight_of x) ≤ v)) ↔ (b ≤ v)
      start_date x a {b} e =
          let q = on_start_lem x (Ok a) (λ t. Ok (max a t)) e in
          let z : max a (day_start (own p i) (midnight_of x)) ≡ b = cc in
          (λ h. omega arith, λ l. omega arith)

      finish_date_lem : (x : Date) (a : ℕ) {b : ℕ}
          → on_time p d (constraint_time (own p i) (Some (Finish x))) (Ok a) (λ t. via Err (start_for_finish (own p i) (d.left i) t) (λ s. Ok (max a s))) ≡ Ok b
          → ((a ≤ v) × FinishDate p i x g) ↔ (b ≤ v)
      finish_date_lem x a {b} e =
          let q = on_finish x (Ok a) (λ t. via Err (start_for_finish (own p i) (d.left i) t) (λ s. Ok (max a s))) e in
          let r = via_answers (start_for_finish (own p i) (d.left i) q.0) (λ s. Ok (max a s)) b q.2 in
          let f : max a r.0 ≡ b = (let y = r.2 in cc) in
          let k = finish_bound_lem (own p i) (kind_of p i) (d.left i) q.0 c r.1 in (
            λ h.
                let m = h.0 in
                let l = k.0 (rw (previous_finish_unique (own p i) q.1 h.1.1) h.1.2) in
                omega arith,
            λ l. (omega arith, (q.0, q.1, k.1 (omega arith))),
          )

      no_date : {a b : ℕ} → ◌≡◌ {A = Result ℕ ClockError} (Ok a) (Ok b) → ((a ≤ v) × Unit {0}) ↔ (b ≤ v)
      no_date {a} {b} e = let z : a ≡ b = cc in (λ h. let m = h.0 in omega arith, λ l. (omega arith, tt))

      pub constrained_bound : (k : Option Constraint) → Mild k → (a : ℕ) {b : ℕ} → constrained p d i k a ≡ Ok b → ((a ≤ v) × Meets p i k v g) ↔ (b ≤ v)
      unfolding constrained on_start constraint_time
      constrained_bound None m a e = no_date e
      constrained_bound (Some (StartOnOrAfter x)) m a e = start_date x a e
      constrained_bound (Some (StartOnOrBefore x)) m a e = no_date (on_start_lem x (Ok a) (λ t. Ok a) e)
      constrained_bound (Some (FinishOnOrAfter x)) m a e = finish_date_lem x a e
      constrained_bound (Some (FinishOnOrBefore x)) m a e = no_date (on_finish x (Ok a) (λ t. Ok a) e).2
      constrained_bound (Some (StartOn x)) m a e = start_date x a e
      constrained_bound (Some (FinishOn x)) m a e = finish_date_lem x a e
      constrained_bound (Some (MandatoryStart x)) m a e = absurd m
      constrained_bound (Some (MandatoryFinish x)) m a e = absurd m
      constrained_bound (Some AsLateAsPossible) m a e = absurd m

      pub levelled_bound : (x : Option Date) (a : ℕ) {b : ℕ} → levelled p d i x a ≡ Ok b → ((a ≤ v) × MeetsLevelled p i x v) ↔ (b ≤ v)
      levelled_bound None a e = no_date e
      levelled_bound (Some x) a e = start_date x a e

      pub held_bound : summary p i ≡ false → Mild (p.activity i).constraint → Mild (p.activity i).secondary_constraint → (a : ℕ) {b : ℕ}
          → held p d i a ≡ Ok b → ((a ≤ v) × MeetsAll i v g) ↔ (b ≤ v)
      unfolding held
      held_bound z m₁ m₂ a {b} e =
          let k₁ = (p.activity i).constraint in
          let k₂ = (p.activity i).secondary_constraint in
          let x = (p.activity i).levelled in
          let rest : ℕ → Result ℕ ClockError = λ s. via Err (constrained p d i k₂ s) (levelled p d i x) in
          let e₀ = sym (on_false (summary p i) (Ok a) (via Err (constrained p d i k₁ a) rest) z) ∙ e in
          let r₁ = via_answers (constrained p d i k₁ a) rest b e₀ in
          let r₂ = via_answers (constrained p d i k₂ r₁.0) (levelled p d i x) b r₁.2 in
          let q₁ = constrained_bound k₁ m₁ a r₁.1 in
          let q₂ = constrained_bound k₂ m₂ r₁.0 r₂.1 in
          let q₃ = levelled_bound x r₂.0 r₂.2 in (
            λ h. q₃.0 (q₂.0 (q₁.0 (h.0, h.1.first), h.1.second), h.1.third),
            λ l.
                let h₃ = q₃.1 l in
                let h₂ = q₂.1 h₃.0 in
                let h₁ = q₁.1 h₂.0 in
                (h₁.0, record { first = h₁.1; second = h₂.1; third = h₃.1 }),
          )
