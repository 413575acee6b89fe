-- "Timetable rules": what it is for a timetable to obey them. Walks are the clock's relations, which know no limit of years.
use Rattle.std.specs.Prelude.{◌≡◌, Bool, true, false, ◌⊎◌, ℕ, suc, ◌≤◌, ◌<◌, ℤ, pos, negsuc, length, Option, Some, None}
use Rattle.date.specs.declared.Date.{Date}
use Rattle.date.specs.Days.{signed_minute}
use Rattle.worktime.specs.Worked.{count, closing, IsNextStart, IsPreviousFinish, IsAdvance, IsRetreat}
use Rattle.project.specs.declared.ActivityKind.{ActivityKind}
use Rattle.project.specs.declared.ActivityKind.TheVariants.{Task, StartMilestone, FinishMilestone}
use Rattle.project.specs.declared.Constraint.{Constraint}
use Rattle.project.specs.declared.Constraint.TheVariants.{StartOnOrAfter, StartOnOrBefore, FinishOnOrAfter, FinishOnOrBefore, StartOn, FinishOn, MandatoryStart, MandatoryFinish, AsLateAsPossible}
use Rattle.project.specs.declared.RelationshipType.{RelationshipType}
use Rattle.project.specs.declared.RelationshipType.TheVariants.{FinishToStart, StartToStart, FinishToFinish, StartToFinish}
use Rattle.placing.specs.Placing.{midnight_of, day_start}
use Rattle.order.specs.Plan.{Plan}
use Rattle.order.specs.Ids.{summary}
use Rattle.order.specs.Ties.{Tie, kept_below}
use Rattle.passes.specs.Plan.{evening, own, lag_own, tie, kind_of, floor, full}
use Rattle.passes.specs.Forward.{source_of}

-- a lag's walk: forward for a lag, back for a lead
abbrev pub IsShift : (ℕ → Bool) → ℕ → ℤ → ℕ → Type 0
IsShift w t (pos n) u = IsAdvance w t n u
IsShift w t (negsuc n) u = IsRetreat w t (suc n) u

-- "start is worked (finish milestone: worked or closing)"
abbrev pub MayStart : (ℕ → Bool) → ActivityKind → ℕ → Type 0
MayStart w Task t = w t ≡ true
MayStart w StartMilestone t = w t ≡ true
MayStart w FinishMilestone t = (w t ≡ true) ⊎ (closing w t ≡ true)

-- "a finish milestone not before the lagged time; any other has, on its own calendar, at least as many worked minutes up to its finish as up to that time"
abbrev pub FinishBound : (ℕ → Bool) → ActivityKind → ℕ → ℕ → Type 0
FinishBound w Task b f = count w b ≤ count w f
FinishBound w StartMilestone b f = count w b ≤ count w f
FinishBound w FinishMilestone b f = b ≤ f

-- a bound on the start, or on the finish, by the type of the link
abbrev pub Bounds : (ℕ → Bool) → ActivityKind → RelationshipType → ℕ → ℕ → ℕ → Type 0
Bounds w kind FinishToStart b s f = b ≤ s
Bounds w kind StartToStart b s f = b ≤ s
Bounds w kind FinishToFinish b s f = FinishBound w kind b f
Bounds w kind StartToFinish b s f = FinishBound w kind b f

-- completed with only a finish, or with both: 000 places the recorded days
pub record Recorded (w : ℕ → Bool) (first last : Date) (s f : ℕ) : Type 0 where
  pub start : IsNextStart w (midnight_of first) s
  pub end : ℕ
  pub finish : IsPreviousFinish w (evening (midnight_of last)) end
  pub later : (s ≤ f) × (end ≤ f) × ((f ≡ s) ⊎ (f ≡ end))

module _ (p : Plan) where
  -- "000's tests on the sheet's fields [..] say what is completed"
  abbrev pub CompletedAt : ℕ → Option Date → Option Date → ℕ → ℕ → Type 0 → Type 0
  CompletedAt i start None s f others = others
  CompletedAt i None (Some e) s f others = Recorded (own p i) e e s f
  CompletedAt i (Some d) (Some e) s f others = Recorded (own p i) d e s f

  -- "start on or after, start on, levelled: as SS at `constraint_time`; finish on or after, finish on: as FF"; "'Before' limits bind only the late pass"
  abbrev pub FinishDate : ℕ → Date → ℕ → Type 0
  FinishDate i d f = (b : ℕ) × IsPreviousFinish (own p i) (evening (midnight_of d)) b × FinishBound (own p i) (kind_of p i) b f

  abbrev pub Meets : ℕ → Option Constraint → ℕ → ℕ → Type 0
  Meets i None s f = Unit {0}
  Meets i (Some (StartOnOrAfter d)) s f = day_start (own p i) (midnight_of d) ≤ s
  Meets i (Some (StartOnOrBefore d)) s f = Unit {0}
  Meets i (Some (FinishOnOrAfter d)) s f = FinishDate i d f
  Meets i (Some (FinishOnOrBefore d)) s f = Unit {0}
  Meets i (Some (StartOn d)) s f = day_start (own p i) (midnight_of d) ≤ s
  Meets i (Some (FinishOn d)) s f = FinishDate i d f
  Meets i (Some (MandatoryStart d)) s f = Unit {0}
  Meets i (Some (MandatoryFinish d)) s f = Unit {0}
  Meets i (Some AsLateAsPossible) s f = Unit {0}

  abbrev pub MeetsLevelled : ℕ → Option Date → ℕ → Type 0
  MeetsLevelled i (Some d) s = day_start (own p i) (midnight_of d) ≤ s
  MeetsLevelled i None s = Unit {0}

  -- an activity that is not completed, by itself
  pub record Placed (i s f : ℕ) : Type 0 where
    pub may : MayStart (own p i) (kind_of p i) s
    pub floored : floor p ≤ s
    pub advanced : IsAdvance (own p i) s (full p i) f
    pub first : Meets i (p.activity i).constraint s f
    pub second : Meets i (p.activity i).secondary_constraint s f
    pub levelled : MeetsLevelled i (p.activity i).levelled s

  -- a kept link: the lagged time, on the lag's calendar, bounds a successor that is not completed
  pub record Held (t : Tie) (s f : ℕ → ℕ) : Type 0 where
    pub lagged : ℕ
    pub shifted : IsShift (lag_own p t) (source_of p t.kind (s t.from) (f t.from)) t.lag lagged
    pub bound : Bounds (own p t.to) (kind_of p t.to) t.kind lagged (s t.to) (f t.to)

  abbrev pub UnlessCompleted : Option Date → Type 0 → Type 0
  UnlessCompleted None rule = rule
  UnlessCompleted (Some e) rule = Unit {0}

  -- starts s with their finishes f
  pub record Obeyed (s f : ℕ → ℕ) : Type 0 where
    pub activities : (i : ℕ) → i < p.activities → summary p i ≡ false
        → CompletedAt i (p.activity i).actual_start (p.activity i).actual_finish (s i) (f i) (Placed i (s i) (f i))
    pub links : (t : ℕ) → t < length (kept_below p p.links)
        → UnlessCompleted (p.activity (tie p t).to).actual_finish (Held (tie p t) s f)

  -- "A timetable is one start, a whole minute, for each activity; summaries have none": signed minutes, as 01 counts them
  pub record Obeys (start : ℕ → ℤ) : Type 0 where
    pub s : ℕ → ℕ
    pub f : ℕ → ℕ
    pub minutes : (i : ℕ) → i < p.activities → summary p i ≡ false → start i ≡ signed_minute (s i)
    pub obeyed : Obeyed s f
