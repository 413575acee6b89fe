-- Demand 3 about the run: for a plan that fits, the early starts as the run ends obey the timetable rules, and in every timetable that does each
-- activity starts at that minute or later.
use Rattle.std.specs.Prelude.{◌≡◌, refl, Bool, true, false, ℤ, Option, Some, None}
use Rattle.date.specs.declared.Date.{Date}
use Rattle.std.proofs.Math.Path.{sym, ap}
use Rattle.std.proofs.Common.{◌∙◌, arith}
use Prim.Native.Nat.{ℕ, ◌≤◌, ◌<◌}
use Rattle.std.specs.Int.Signed.{lt_z, le_z}
use Rattle.number.specs.Zed.{up}
use Rattle.number.specs.ZedLaws.{lt_z_true, le_z_true}
use Rattle.date.specs.Days.{signed_minute}
use Rattle.project.specs.declared.ActivityKind.{ActivityKind}
use Rattle.project.specs.declared.ActivityKind.TheVariants.{Task, StartMilestone, FinishMilestone}
use Rattle.project.specs.declared.Status.TheVariants.{InProgress}
use Rattle.project.specs.Ranges.{ActivityInRange}
use Rattle.project.specs.Status.{is_milestone, status_of}
use Rattle.order.specs.Plan.{Plan}
use Rattle.order.specs.Ids.{summary}
use Rattle.order.specs.Checks.{checked}
use Rattle.passes.specs.Plan.{full}
use Rattle.passes.specs.Dates.{Early, Late, Freed, Pass, leaves, refused, after}
use Rattle.passes.specs.Run.{Ran, remaining, forward_pass, backward_pass, free_pass, path_pass, run}
use Rattle.passes.specs.Backward.{finish}
use Rattle.timetable.specs.Rules.{Obeyed, Obeys}
use Rattle.timetable.specs.Fit.{Mild, Unexpected, FitBy, Marks, Fit}
use Rattle.timetable.proofs.Earliest.{Momentary, early_obeyed, early_least, early_obeys, early_first}
use Rattle.timetable.proofs.HeldLaws.{free_pass_keeps}

-- ---- which plans
-- "minutes i32 (0 for a milestone, else 3)"
pub milestones_momentary : (p : Plan) → ((i : ℕ) → i < p.activities → ActivityInRange (p.activity i)) → Momentary p
unfolding full is_milestone
milestones_momentary p h i l e = by (summary p i)
  where
    none : up (p.activity i).minutes ≡ 0
    none = ap up ((h i l).moment (ap is_milestone e))

    by : (b : Bool) → ◌≡◌ {A = ℕ} (elim b [ true ↦ 0 | false ↦ up (p.activity i).minutes ]) 0
    by true = refl
    by false = none

-- "nothing in progress, no expected finish, no mandatory or as-late-as-possible mark", of every record
pub record Plain (p : Plan) (i : ℕ) : Type 0 where
  pub still : status_of (p.activity i).actual_start (p.activity i).actual_finish ≡ InProgress → ⊥
  pub expected : (p.activity i).expected_finish ≡ None
  pub first : Mild (p.activity i).constraint
  pub second : Mild (p.activity i).secondary_constraint

none_expected : (kind : ActivityKind) (x : Option Date) → x ≡ None → Unexpected kind x
none_expected Task None e = tt
none_expected Task (Some d) e = let z : ◌≡◌ {A = ℕ} 0 1 = cc in absurd (omega arith)
none_expected StartMilestone x e = tt
none_expected FinishMilestone x e = tt

plain_by : (R : Type 0) (x y : Option Date) → (status_of x y ≡ InProgress → ⊥) → R → FitBy x y R
unfolding status_of
plain_by R None None h r = r
plain_by R (Some d) None h r = absurd (h refl)
plain_by R None (Some e) h r = tt
plain_by R (Some d) (Some e) h r = tt

pub plain_fits : (p : Plan) → ((i : ℕ) → i < p.activities → Plain p i) → Fit p
plain_fits p h i l z =
    let c = h i l in
    plain_by (Marks p i) (p.activity i).actual_start (p.activity i).actual_finish c.still (record {
      first = c.first;
      second = c.second;
      expected = none_expected (p.activity i).kind (p.activity i).expected_finish c.expected;
    })

-- ---- the run's parts
after_leaves : {A B : Type 0} (x : Pass A) (go : A → Pass B) (y : B) → after x go ≡ leaves y → (a : A) × (x ≡ leaves a) × (go a ≡ leaves y)
after_leaves (leaves a) go y e = (a, refl, e)
after_leaves (refused k) go y e = let z : ◌≡◌ {A = ℕ} 0 1 = cc in absurd (omega arith)

module _ (p : Plan) where
  pub record Forwarded (d : Early) : Type 0 where
    pub left : ℕ → ℕ
    pub remains : remaining p ≡ leaves left
    pub passes : forward_pass p left ≡ leaves d

  ended : Early → Late → Freed → Pass Ran
  ended d l x = after (path_pass p (finish p d) x.early) (λ path. leaves (record { early = x.early; late = l; free = x.free; path = path }))

  freely : Early → Late → Pass Ran
  freely d l = after (free_pass p d l) (ended d l)

  lately : Early → Pass Ran
  lately d = after (backward_pass p d) (freely d)

  module _ (fine : (checked p).number ≡ 0) (fit : Fit p) (r : Ran) where
    ended_early : (d : Early) (l : Late) (x : Freed) → ended d l x ≡ leaves r → r.early ≡ x.early
    unfolding ended
    ended_early d l x e =
        by (after_leaves (path_pass p (finish p d) x.early) (λ path. leaves (record { early = x.early; late = l; free = x.free; path = path })) r e)
      where
        by : (path : ℕ → Bool) × (path_pass p (finish p d) x.early ≡ leaves path)
            × (leaves (record { early = x.early; late = l; free = x.free; path = path }) ≡ leaves r) → r.early ≡ x.early
        by (path, a, b) =
            let q : record { early = x.early; late = l; free = x.free; path = path } ≡ r = cc in sym (ap (λ (z : Ran). z.early) q)

    lately_early : (d : Early) → lately d ≡ leaves r → r.early ≡ d
    unfolding lately freely
    lately_early d e = first (after_leaves (backward_pass p d) (freely d) r e)
      where
        second : (l : Late) → (x : Freed) × (free_pass p d l ≡ leaves x) × (ended d l x ≡ leaves r) → r.early ≡ d
        second l (x, a, b) = ended_early d l x b ∙ free_pass_keeps p fine fit d l x a

        first : (l : Late) × (backward_pass p d ≡ leaves l) × (freely d l ≡ leaves r) → r.early ≡ d
        first (l, a, b) = second l (after_leaves (free_pass p d l) (ended d l) r b)

    -- the early dates as the run ends are the forward pass's
    pub run_forwarded : run p ≡ leaves r → Forwarded r.early
    unfolding run lately freely ended
    run_forwarded e = first (after_leaves (remaining p) (λ left. after (forward_pass p left) lately) r e)
      where
        second : (left : ℕ → ℕ) → remaining p ≡ leaves left → (d : Early) × (forward_pass p left ≡ leaves d) × (lately d ≡ leaves r) → Forwarded r.early
        second left h (d, a, b) = record { left = left; remains = h; passes = a ∙ ap leaves (sym (lately_early d b)) }

        first : (left : ℕ → ℕ) × (remaining p ≡ leaves left) × (after (forward_pass p left) lately ≡ leaves r) → Forwarded r.early
        first (left, a, b) = second left a (after_leaves (forward_pass p left) lately r b)

    module _ (momentary : Momentary p) (e : run p ≡ leaves r) where
      parts : Forwarded r.early
      parts = run_forwarded e

      pub run_obeyed : Obeyed p r.early.es r.early.ef
      run_obeyed = early_obeyed p fine fit momentary parts.left r.early parts.remains parts.passes

      pub run_least : (s f : ℕ → ℕ) → Obeyed p s f → (i : ℕ) → i < p.activities → summary p i ≡ false → r.early.es i ≤ s i
      run_least = early_least p fine fit momentary parts.left r.early parts.remains parts.passes

      -- "the early starts obey 01's Timetable rules"
      pub run_obeys : Obeys p (λ i. signed_minute (r.early.es i))
      run_obeys = early_obeys p fine fit momentary parts.left r.early parts.remains parts.passes

      -- "in every other timetable that obeys them each activity starts at that minute or later"
      pub run_first : (start : ℕ → ℤ) → Obeys p start → (i : ℕ) → i < p.activities → summary p i ≡ false
          → le_z (signed_minute (r.early.es i)) (start i) ≡ true
      run_first = early_first p fine fit momentary parts.left r.early parts.remains parts.passes

      -- so one with an earlier start anywhere disobeys
      pub earlier_disobeys : (start : ℕ → ℤ) (i : ℕ) → i < p.activities → summary p i ≡ false
          → lt_z (start i) (signed_minute (r.early.es i)) ≡ true → Obeys p start → ⊥
      earlier_disobeys start i l z h o =
          let t = signed_minute (r.early.es i) in
          absurd (omega (arith, lt_z_true (start i) t h, le_z_true t (start i) (run_first start o i l z)))
