-- The walks of the timetable rules always have an answer, on calendars whose walks do: so that a link holds of its one lagged time, and a start has
-- its one finish.
use Rattle.std.specs.Prelude.{◌≡◌, refl, Bool, false, ◌↔◌, ℕ, suc, ◌+◌, ◌*◌, ◌≤◌, ◌<◌, ℤ, pos, negsuc, get_or, Option, Some, None}
use Rattle.std.proofs.Common.{arith}
use Rattle.number.specs.Zed.{up, dn}
use Rattle.date.specs.declared.Date.{Date}
use Rattle.worktime.specs.Relations.{advance_after}
use Rattle.worktime.specs.Worked.{IsNextStart, IsPreviousFinish, IsAdvance, IsRetreat}
use Rattle.calendar.specs.Hours.{worked}
use Rattle.project.specs.declared.RelationshipType.{RelationshipType}
use Rattle.project.specs.declared.RelationshipType.TheVariants.{FinishToStart, StartToStart, FinishToFinish, StartToFinish}
use Rattle.project.specs.Ranges.{DayInRange, OptionalInRange, ActivityInRange, ProjectInRange}
use Rattle.placing.specs.Placing.{midnight_of}
use Rattle.order.specs.Plan.{Plan}
use Rattle.order.specs.Ids.{summary}
use Rattle.order.specs.Ties.{Tie, kept_below}
use Rattle.order.specs.TieLaws.{kept_picked}
use Rattle.order.proofs.FineLaws.{plan_fine_lem}
use Rattle.order.specs.LagLaws.{calendar_below, tie_lag, tie_calendar_lem}
use Rattle.order.proofs.LoopLaws.{fine_passes}
use Rattle.order.specs.Checks.{checked}
use Rattle.passes.specs.Plan.{evening, own, lag_own, tie, kind_of, origin, later, floor, full}
use Rattle.passes.specs.Forward.{source_of}
use Rattle.timetable.specs.Rules.{IsShift, Bounds, CompletedAt, Placed, Held, Obeyed}
use Rattle.timetable.specs.WalkLaws.{shift_unique}
use Rattle.timetable.proofs.PassLaws.{kept}

-- the first minute of the first day that a sheet can name: "−135,140 to 376,199"
abbrev pub first_named : ℕ
first_named = 2147348508 * 1440

-- walks forward have an answer from anywhere, and walks back by a lead from the first day that a sheet can name
pub record Answering (w : ℕ → Bool) : Type 0 where
  pub next : (t : ℕ) → (u : ℕ) × IsNextStart w t u
  pub previous : (t : ℕ) → first_named ≤ t → (u : ℕ) × IsPreviousFinish w t u
  pub forward : (t n : ℕ) → (u : ℕ) × IsAdvance w t n u
  pub back : (t n : ℕ) → first_named ≤ t → n ≤ 144000000 → (u : ℕ) × IsRetreat w t n u

shift_answers : (w : ℕ → Bool) → Answering w → (z : ℤ) → up z + dn z ≤ 144000000 → (t : ℕ) → first_named ≤ t → (u : ℕ) × IsShift w t z u
shift_answers w a (pos n) b t l = a.forward t n
shift_answers w a (negsuc n) b t l = a.back t (suc n) l (omega arith)

pub named_after : (d : Date) → DayInRange d → first_named ≤ midnight_of d
named_after d r = omega (arith, r.low)

module _ (p : Plan) (fine : (checked p).number ≡ 0) (answers : (k : ℕ) → k ≤ p.calendars → Answering (worked (p.hours k))) where
  own_answers : (i : ℕ) → i < p.activities → Answering (own p i)
  own_answers i l =
      answers (p.activity i).calendar (omega (arith, calendar_below p ((plan_fine_lem p).0 (fine_passes p fine)).activities i l))

  -- the recorded days, a start's finish, and a date's finish
  pub start_answers : (i : ℕ) → i < p.activities → (t : ℕ) → (u : ℕ) × IsNextStart (own p i) t u
  start_answers i l t = (own_answers i l).next t

  pub finish_answers : (i : ℕ) → i < p.activities → (s : ℕ) → (f : ℕ) × IsAdvance (own p i) s (full p i) f
  finish_answers i l s = (own_answers i l).forward s (full p i)

  pub date_answers : (i : ℕ) → i < p.activities → (d : Date) → DayInRange d → (b : ℕ) × IsPreviousFinish (own p i) (evening (midnight_of d)) b
  date_answers i l d r = (own_answers i l).previous (evening (midnight_of d)) (omega (arith, named_after d r))

  -- a lagged time
  pub lag_answers : (t : ℕ) → t < kept p → (u : ℕ) → first_named ≤ u → (v : ℕ) × IsShift (lag_own p (tie p t)) u (tie p t).lag v
  lag_answers t l u b =
      let k = get_or (kept_below p p.links) t 0 in
      let c = kept_picked p p.links in
      let f = (plan_fine_lem p).0 (fine_passes p fine) in
      shift_answers (lag_own p (tie p t)) (answers (tie p t).calendar (tie_calendar_lem p f.links k (c.below t l) f.activities))
      (tie p t).lag (tie_lag p f.links k (c.below t l) (c.has t l)) u b

  -- so a link holds just where its bound does of every lagged time, of which there is one
  pub held_every : (t : ℕ) → t < kept p → (s f : ℕ → ℕ) → first_named ≤ source_of p (tie p t).kind (s (tie p t).from) (f (tie p t).from)
      → Held p (tie p t) s f
      ↔ ((v : ℕ) → IsShift (lag_own p (tie p t)) (source_of p (tie p t).kind (s (tie p t).from) (f (tie p t).from)) (tie p t).lag v
      → Bounds (own p (tie p t).to) (kind_of p (tie p t).to) (tie p t).kind v (s (tie p t).to) (f (tie p t).to))
  held_every t l s f b =
      let k = tie p t in
      let x = source_of p k.kind (s k.from) (f k.from) in (
        λ h v a. rw (shift_unique (lag_own p k) x v h.lagged k.lag a h.shifted) h.bound,
        λ h. let r = lag_answers t l x b in record { lagged = r.0; shifted = r.1; bound = h r.0 r.1 },
      )

-- ---- in a timetable that obeys the rules no time lies before the first day that a sheet can name
module _ (p : Plan) where
  later_after : (t : ℕ) (x : Option Date) → t ≤ later p t x
  later_after t (Some d) = omega arith
  later_after t None = omega arith

  named_floor : ProjectInRange p.project → first_named ≤ floor p
  named_floor r = omega (arith, named_after p.project.start r.start, later_after (origin p) p.project.data_date)

  completed_named : (i : ℕ) (x y : Option Date) (s f : ℕ) (R : Type 0) → OptionalInRange x → OptionalInRange y
      → (R → (first_named ≤ s) × (first_named ≤ f)) → CompletedAt p i x y s f R → (first_named ≤ s) × (first_named ≤ f)
  completed_named i x None s f R a b g c = g c
  completed_named i None (Some e) s f R a b g c = let h = c.later.0 in omega (arith, named_after e (b e refl), c.start.after)
  completed_named i (Some d) (Some e) s f R a b g c = let h = c.later.0 in omega (arith, named_after d (a d refl), c.start.after)

  module _ (project : ProjectInRange p.project) (activities : (i : ℕ) → i < p.activities → ActivityInRange (p.activity i)) where
    pub obeyed_named : (s f : ℕ → ℕ) → Obeyed p s f → (i : ℕ) → i < p.activities → summary p i ≡ false → (first_named ≤ s i) × (first_named ≤ f i)
    obeyed_named s f o i l z =
        completed_named i (p.activity i).actual_start (p.activity i).actual_finish (s i) (f i) (Placed p i (s i) (f i))
        (activities i l).actual_start (activities i l).actual_finish
        (λ c. omega (arith, named_floor project, c.floored, advance_after (own p i) c.advanced)) (o.activities i l z)

    pub source_named : (s f : ℕ → ℕ) → Obeyed p s f → (t : Tie) → t.from < p.activities → summary p t.from ≡ false
        → first_named ≤ source_of p t.kind (s t.from) (f t.from)
    source_named s f o t l z = by t.kind (obeyed_named s f o t.from l z)
      where
        by : (kind : RelationshipType) → (first_named ≤ s t.from) × (first_named ≤ f t.from) → first_named ≤ source_of p kind (s t.from) (f t.from)
        by FinishToStart h = h.1
        by StartToStart h = h.0
        by FinishToFinish h = h.1
        by StartToFinish h = h.0
