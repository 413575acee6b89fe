-- Which plans the claim of earliest starts is about: "nothing in progress, no expected finish, no mandatory or as-late-as-possible mark".
use Rattle.std.specs.Prelude.{◌≡◌, false, ℕ, ◌<◌, Option, Some, None}
use Rattle.date.specs.declared.Date.{Date}
use Rattle.project.specs.declared.ActivityKind.{ActivityKind}
use Rattle.project.specs.declared.ActivityKind.TheVariants.{Task, StartMilestone, FinishMilestone}
use Rattle.project.specs.declared.Constraint.{Constraint}
use Rattle.project.specs.declared.Constraint.TheVariants.{StartOnOrAfter, StartOnOrBefore, FinishOnOrAfter, FinishOnOrBefore, StartOn, FinishOn, MandatoryStart, MandatoryFinish, AsLateAsPossible}
use Rattle.order.specs.Plan.{Plan}
use Rattle.order.specs.Ids.{summary}

-- no mandatory or as-late-as-possible mark
abbrev pub Mild : Option Constraint → Type 0
Mild None = Unit {0}
Mild (Some (StartOnOrAfter d)) = Unit {0}
Mild (Some (StartOnOrBefore d)) = Unit {0}
Mild (Some (FinishOnOrAfter d)) = Unit {0}
Mild (Some (FinishOnOrBefore d)) = Unit {0}
Mild (Some (StartOn d)) = Unit {0}
Mild (Some (FinishOn d)) = Unit {0}
Mild (Some (MandatoryStart d)) = ⊥
Mild (Some (MandatoryFinish d)) = ⊥
Mild (Some AsLateAsPossible) = ⊥

-- an expected finish that is read: a milestone's never is
abbrev pub Unexpected : ActivityKind → Option Date → Type 0
Unexpected Task None = Unit {0}
Unexpected Task (Some d) = ⊥
Unexpected StartMilestone d = Unit {0}
Unexpected FinishMilestone d = Unit {0}

-- by what is recorded: completed work's marks and expected finish are never read, and work in progress does not fit
abbrev pub FitBy : Option Date → Option Date → Type 0 → Type 0
FitBy start (Some e) rest = Unit {0}
FitBy (Some d) None rest = ⊥
FitBy None None rest = rest

pub record Marks (p : Plan) (i : ℕ) : Type 0 where
  pub first : Mild (p.activity i).constraint
  pub second : Mild (p.activity i).secondary_constraint
  pub expected : Unexpected (p.activity i).kind (p.activity i).expected_finish

-- summaries are never read
abbrev pub Fit : Plan → Type 0
Fit p = (i : ℕ) → i < p.activities → summary p i ≡ false → FitBy (p.activity i).actual_start (p.activity i).actual_finish (Marks p i)
