-- Free float with held late moves, total float, the longest path, and what is critical.
use Rattle.std.specs.Prelude.{Bool, true, false, ◌&&◌, ◌||◌, not, List, [], ◌∷◌, ℕ, eqb, ltb, ℤ, pos, ◌*ℤ◌, Result, Ok, Err, Option, Some, None}
use Rattle.worktime.specs.declared.ClockError.{ClockError}
use Rattle.std.specs.Int.Signed.{le_z}
use Rattle.number.specs.Zed.{up}
use Rattle.number.specs.Sign.{min_z, whole_days}
use Rattle.worktime.specs.Walks.{advance, retreat, between}
use Rattle.project.specs.declared.Constraint.{Constraint}
use Rattle.project.specs.declared.Constraint.TheVariants.{StartOnOrAfter, StartOnOrBefore, FinishOnOrAfter, FinishOnOrBefore, StartOn, FinishOn, MandatoryStart, MandatoryFinish, AsLateAsPossible}
use Rattle.project.specs.declared.RelationshipType.{RelationshipType}
use Rattle.project.specs.declared.RelationshipType.TheVariants.{FinishToStart, StartToStart, FinishToFinish, StartToFinish}
use Rattle.project.specs.declared.FloatKind.{FloatKind}
use Rattle.project.specs.declared.FloatKind.TheVariants.{Finish, Start, Smallest}
use Rattle.project.specs.declared.CriticalBy.{CriticalBy}
use Rattle.project.specs.declared.CriticalBy.TheVariants.{TotalFloat, LongestPath}
use Rattle.placing.specs.declared.Actual.{Actual}
use Rattle.placing.specs.declared.Actual.TheVariants.{Unstarted, Begun, Completed}
use Rattle.placing.specs.Placing.{via, place_start, finish_of}
use Rattle.order.specs.Plan.{Plan}
use Rattle.order.specs.Ids.{summary}
use Rattle.order.specs.Ties.{calendar_of}
use Rattle.passes.specs.Plan.{own, tie, ties_into, ties_out, kind_of, recorded, begun}
use Rattle.passes.specs.Dates.{Early, Late, Freed, Pass, leaves, refused, put}
use Rattle.passes.specs.Forward.{forward_bound, link_bound, start_for, early}

-- what follows a count of worked minutes, which may be negative
abbrev pub measured : {A : Type 0} → (ClockError → A) → Result ℤ ClockError → (ℤ → A) → A
measured refusal (Ok z) go = go z
measured refusal (Err k) go = refusal k

abbrev pub is_late : Option Constraint → Bool
is_late None = false
is_late (Some (StartOnOrAfter x)) = false
is_late (Some (StartOnOrBefore x)) = false
is_late (Some (FinishOnOrAfter x)) = false
is_late (Some (FinishOnOrBefore x)) = false
is_late (Some (StartOn x)) = false
is_late (Some (FinishOn x)) = false
is_late (Some (MandatoryStart x)) = false
is_late (Some (MandatoryFinish x)) = false
is_late (Some AsLateAsPossible) = true

module _ (p : Plan) where
  -- ---- free float, successors first
  -- the end of the successor that a link leads to
  abbrev pub target_of : RelationshipType → ℕ → ℕ → ℕ
  target_of FinishToStart es ef = es
  target_of StartToStart es ef = es
  target_of FinishToFinish es ef = ef
  target_of StartToFinish es ef = ef

  module _ (d : Early) where
    -- the worked minutes, on i's own calendar, from the bound of its link t to where the successor is now
    unfoldable pub gap : ℕ → ℕ → (ℤ → Pass Freed) → Pass Freed
    gap i t go =
        via refused (forward_bound p (tie p t) (begun p (recorded p i) (d.es i)) (d.ef i))
        (λ b. measured refused (between (own p i) b (target_of (tie p t).kind (d.es (tie p t).to) (d.ef (tie p t).to))) go)

    unfoldable pub slack_by : ℕ → List ℕ → ℤ → (ℤ → Pass Freed) → Pass Freed
    slack_by i [] slack go = go slack
    slack_by i (t ∷ ts) slack go = gap i t (λ g. slack_by i ts (min_z slack g) go)

    -- as late as possible, and not begun
    abbrev pub not_begun : Result Actual ClockError → Bool
    not_begun (Ok Unstarted) = true
    not_begun (Ok (Begun s)) = false
    not_begun (Ok (Completed s f)) = false
    not_begun (Err k) = false

    unfoldable pub holds_late : ℕ → Bool
    holds_late i =
        not (summary p i) && not_begun (recorded p i) && (is_late (p.activity i).constraint || is_late (p.activity i).secondary_constraint)

    -- the held activity's new start: moved by its float on its OWN calendar, or back by its work from its finish moved so
    unfoldable pub held_start : ℕ → ℕ → Result ℕ ClockError
    held_start i n =
        via Err (advance (own p i) (d.es i) n)
        (λ t. via Err (place_start (own p i) (kind_of p i) t)
        (λ moved. elim (eqb (d.left i) 0) [
          | true ↦ Ok moved
          | false ↦ via Err (advance (own p i) (d.ef i) n) (λ f. retreat (own p i) f (d.left i))
        ]))

    -- the move by n minutes, with its new finish counted on its OWN calendar; predecessors see both
    unfoldable pub held_move : ℕ → ℕ → (ℕ → ℕ) → Pass Freed
    held_move i n free =
        via refused (held_start i n)
        (λ s. via refused (finish_of (own p i) (d.left i) s)
        (λ f. leaves (record { early = early p d i s f (d.left i); free = put free i 0 })))

    abbrev pub free_by : Result Actual ClockError → ℤ → ℤ → ℕ
    free_by (Ok (Completed s f)) slack total = 0
    free_by (Ok Unstarted) slack total = up (min_z slack total)
    free_by (Ok (Begun s)) slack total = up (min_z slack total)
    free_by (Err k) slack total = 0

    unfoldable pub freed : ℕ → ℕ → (ℕ → ℕ) → Pass Freed
    freed i n free = elim (holds_late i && ltb 0 n) [ true ↦ held_move i n free | false ↦ leaves (record { early = d; free = put free i n }) ]

  -- activity i: the least of what stands before the greatest finish and before each successor, and of its own float to its late finish
  unfoldable pub free_float : ℕ → Late → Freed → ℕ → Pass Freed
  free_float finish l x i =
      measured refused (between (own p i) (x.early.ef i) finish)
      (λ slack. slack_by x.early i (ties_out p i) slack
      (λ least. measured refused (between (own p i) (x.early.ef i) (l.lf i))
      (λ total. freed x.early i (free_by x.early (recorded p i) least total) x.free)))

  -- ---- the longest path: from what finishes the project back along the links that set a start
  abbrev pub is_completed : Result Actual ClockError → Bool
  is_completed (Ok Unstarted) = false
  is_completed (Ok (Begun s)) = false
  is_completed (Ok (Completed s f)) = true
  is_completed (Err k) = false

  unfoldable pub last_ones : Early → ℕ → ℕ → Bool
  last_ones d finish i = not (summary p i) && not (is_completed (recorded p i)) && eqb (d.ef i) finish

  module _ (d : Early) where
    -- link t sets the start of i: its bound places i where it is
    unfoldable pub drives : ℕ → ℕ → (Bool → Pass (ℕ → Bool)) → Pass (ℕ → Bool)
    drives i t go =
        via refused (link_bound p d t)
        (λ b. via refused (start_for p i (d.left i) (tie p t).kind b)
        (λ s. via refused (place_start (own p i) (kind_of p i) s)
        (λ u. go (eqb u (d.es i) && not (is_completed (recorded p (tie p t).from))))))

    unfoldable pub marked : ℕ → List ℕ → (ℕ → Bool) → Pass (ℕ → Bool)
    marked i [] on = leaves on
    marked i (t ∷ ts) on = drives i t (λ b. marked i ts (elim b [ true ↦ put on (tie p t).from true | false ↦ on ]))

    unfoldable pub on_path : (ℕ → Bool) → ℕ → Pass (ℕ → Bool)
    on_path on i = elim (on i) [ true ↦ marked i (ties_into p i) on | false ↦ leaves on ]

  -- ---- total float of the three kinds, and what is critical
  abbrev pub float_by : FloatKind → ℤ → ℤ → ℤ
  float_by Finish f s = f
  float_by Start f s = s
  float_by Smallest f s = min_z f s

  abbrev pub day_of : ℕ → ℕ
  day_of i = p.day_length (calendar_of p i)

  -- "division toward zero": a float in days of i's own calendar
  abbrev pub in_days : ℕ → ℤ → ℤ
  in_days i z = whole_days z (day_of i)

  abbrev pub critical_by : ℕ → CriticalBy → ℤ → Bool → Bool
  critical_by i (TotalFloat n) total path = le_z total (n *ℤ pos (day_of i))
  critical_by i LongestPath total path = path
