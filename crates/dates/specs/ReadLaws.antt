-- What is recorded of an activity by its three cells, and the plan's start and floor by the days of the sheet.
use Rattle.std.specs.Prelude.{◌≡◌, ◌⊎◌, List, ℕ, ◌+◌, ◌*◌, max, eqb, Option, Some, None}
use Rattle.std.proofs.Math.Path.{refl}
use Rattle.std.proofs.Common.{sym, ap, ap₂, ◌∙◌, eq-eqb, ne_eqb, inl, inr, arith}
use Rattle.worktime.specs.Reads.{on_true, on_false}
use Rattle.date.specs.declared.Date.{Date}
use Rattle.project.specs.Records.{date_at, optional_date_at, activity_at, project_at}
use Rattle.placing.specs.declared.Actual.{Actual}
use Rattle.placing.specs.declared.Actual.TheVariants.{Unstarted, Begun, Completed}
use Rattle.placing.specs.Placing.{midnight_of}
use Rattle.sheet.specs.declared.Contents.{Contents}
use Rattle.order.specs.Plan.{plan_of}
use Rattle.passes.specs.Plan.{origin, later, floor}
use Rattle.dates.specs.Standing.{actual_of}

-- ---- recorded work
module _ (how start finish : ℕ) where
  pub actual_unstarted : how ≡ 0 → actual_of how start finish ≡ Unstarted
  unfolding actual_of
  actual_unstarted e = on_true (eqb how 0) Unstarted _ (eq-eqb how 0 e)

  pub actual_begun : how ≡ 1 → actual_of how start finish ≡ Begun start
  unfolding actual_of
  actual_begun e = rw e

  pub actual_completed : (how ≡ 0 → ⊥) → (how ≡ 1 → ⊥) → actual_of how start finish ≡ Completed start finish
  unfolding actual_of
  actual_completed m n =
      on_false (eqb how 0) Unstarted _ (ne_eqb how 0 m) ∙ on_false (eqb how 1) (Begun start) (Completed start finish) (ne_eqb how 1 n)

-- work not begun or under way is not completed
pub not_completed : {a : Actual} → (a ≡ Unstarted) ⊎ ((s : ℕ) × (a ≡ Begun s)) → (s f : ℕ) → a ≡ Completed s f → ⊥
not_completed (inl e) s f c = let z : ◌≡◌ {A = ℕ} 0 1 = cc in omega arith
not_completed (inr (b, e)) s f c = let z : ◌≡◌ {A = ℕ} 0 1 = cc in omega arith

-- ---- the plan of a sheet
module _ (s : List ℕ) (c : Contents) where
  pub plan_activity : (i : ℕ) → activity_at s (c.at + 45 * i) ≡ (plan_of s c).activity i
  unfolding plan_of
  plan_activity i = refl

  pub plan_start : date_at s 1 ≡ (plan_of s c).project.start
  unfolding plan_of project_at
  plan_start = refl

  pub plan_data_date : optional_date_at s 5 ≡ (plan_of s c).project.data_date
  unfolding plan_of project_at
  plan_data_date = refl

  floor_is : (d : Option Date) → optional_date_at s 5 ≡ d → floor (plan_of s c) ≡ later (plan_of s c) (origin (plan_of s c)) d
  floor_is d e = ap (later (plan_of s c) (origin (plan_of s c))) (sym plan_data_date ∙ e)

  -- the floor by the data day, from the start's minute o and the data day's minute t
  pub floor_later : (d : Date) (o t : ℕ) → optional_date_at s 5 ≡ Some d → o ≡ origin (plan_of s c) → t ≡ midnight_of d → floor (plan_of s c) ≡ max o t
  floor_later d o t e f g = floor_is (Some d) e ∙ ap₂ max (sym f) (sym g)

  pub floor_absent : (o : ℕ) → optional_date_at s 5 ≡ None → o ≡ origin (plan_of s c) → floor (plan_of s c) ≡ o
  floor_absent o e f = floor_is None e ∙ sym f
