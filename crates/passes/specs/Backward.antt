-- The greatest early finish, the end, and the backward pass: late starts and finishes.
use Rattle.std.specs.Prelude.{Bool, true, false, ◌&&◌, List, [], ◌∷◌, ℕ, zero, suc, ◌+◌, max, min, eqb, ltb, leb, neg_ℤ, Result, Ok, Err, Option, Some, None}
use Rattle.worktime.specs.declared.ClockError.{ClockError}
use Rattle.date.specs.declared.Date.{Date}
use Rattle.number.specs.Zed.{up, dn}
use Rattle.worktime.specs.Walks.{next_start, shift}
use Rattle.project.specs.declared.Constraint.{Constraint}
use Rattle.project.specs.declared.Constraint.TheVariants.{StartOnOrAfter, StartOnOrBefore, FinishOnOrAfter, FinishOnOrBefore, StartOn, FinishOn, MandatoryStart, MandatoryFinish, AsLateAsPossible}
use Rattle.project.specs.declared.RelationshipType.{RelationshipType}
use Rattle.project.specs.declared.RelationshipType.TheVariants.{FinishToStart, StartToStart, FinishToFinish, StartToFinish}
use Rattle.project.specs.Status.{on_start, bounds_start}
use Rattle.placing.specs.declared.Actual.{Actual}
use Rattle.placing.specs.declared.Actual.TheVariants.{Unstarted, Begun, Completed}
use Rattle.placing.specs.Placing.{via, bounded, midnight_of, place_finish, latest_same, start_of, finish_for_start, finish_for_start_by, constraint_time}
use Rattle.order.specs.Plan.{Plan}
use Rattle.order.specs.Ids.{summary}
use Rattle.order.specs.Ties.{Tie}
use Rattle.passes.specs.Plan.{evening, own, lag_own, tie, ties_out, kind_of, origin, recorded}
use Rattle.passes.specs.Dates.{Early, Late, Pass, leaves, refused, put}
use Rattle.passes.specs.Forward.{on_time}

module _ (p : Plan) where
  -- ---- the greatest early finish of the first n activities that are no summaries, 0 where there is none
  unfoldable pub greatest_below : Early → ℕ → ℕ
  greatest_below d zero = 0
  greatest_below d (suc n) = elim (summary p n) [ true ↦ greatest_below d n | false ↦ max (greatest_below d n) (d.ef n) ]

  -- the plan's start where there is none
  unfoldable pub all_summaries : ℕ → Bool
  all_summaries zero = true
  all_summaries (suc n) = summary p n && all_summaries n

  unfoldable pub finish : Early → ℕ
  finish d = elim (all_summaries p.activities) [ true ↦ origin p | false ↦ greatest_below d p.activities ]

  -- the end: the evening that the project must finish by, or the greatest early finish
  abbrev pub end_by : Early → Option Date → Result ℕ ClockError
  end_by d (Some x) = bounded (origin p) (evening (midnight_of x))
  end_by d None = Ok (finish d)

  unfoldable pub end : Early → Result ℕ ClockError
  end d = end_by d p.project.must_finish_by

  -- ---- the backward pass, from the early dates and the work left
  module _ (d : Early) (l : Late) where
    -- back over the lag by its negation, and, for a lag that is not 0, on to the lag calendar's next start
    unfoldable pub over_lag : Tie → ℕ → Result ℕ ClockError
    over_lag t x =
        via Err (shift (lag_own p t) x (neg_ℤ t.lag))
        (λ v. elim (eqb (up t.lag + dn t.lag) 0) [ true ↦ Ok v | false ↦ next_start (lag_own p t) v ])

    -- the latest finish of i that a link out of it leaves, from its successor's late times
    abbrev pub finish_for : ℕ → Tie → RelationshipType → ℕ → ℕ → Result ℕ ClockError
    finish_for i t FinishToStart ls lf = over_lag t ls
    finish_for i t StartToStart ls lf = via Err (over_lag t ls) (finish_for_start (own p i) (d.left i))
    finish_for i t FinishToFinish ls lf = over_lag t lf
    finish_for i t StartToFinish ls lf = via Err (over_lag t lf) (finish_for_start (own p i) (d.left i))

    -- the successor's late times are first moved to its own next start
    unfoldable pub link_finish : ℕ → ℕ → Result ℕ ClockError
    link_finish i t =
        via Err (latest_same (own p (tie p t).to) (l.ls (tie p t).to))
        (λ ls. via Err (latest_same (own p (tie p t).to) (l.lf (tie p t).to))
        (λ lf. via Err (finish_for i (tie p t) (tie p t).kind ls lf) (bounded (origin p))))

    -- lowered by each link out of i, in rising order
    unfoldable pub lowered : ℕ → List ℕ → ℕ → Result ℕ ClockError
    lowered i [] latest = Ok latest
    lowered i (t ∷ ts) latest = via Err (link_finish i t) (λ f. lowered i ts (min latest f))

    -- ---- late constraints: no later than their date; a mandatory one on it
    abbrev pub at_late : ℕ → Option Constraint → ℕ → ℕ → Result ℕ ClockError
    at_late i None t latest = Ok latest
    at_late i (Some (StartOnOrAfter x)) t latest = Ok latest
    at_late i (Some (StartOnOrBefore x)) t latest = via Err (finish_for_start_by (own p i) (d.left i) t) (λ f. Ok (min latest f))
    at_late i (Some (FinishOnOrAfter x)) t latest = Ok latest
    at_late i (Some (FinishOnOrBefore x)) t latest = Ok (min latest t)
    at_late i (Some (StartOn x)) t latest = via Err (finish_for_start_by (own p i) (d.left i) t) (λ f. Ok (min latest f))
    at_late i (Some (FinishOn x)) t latest = Ok (min latest t)
    at_late i (Some (MandatoryStart x)) t latest = finish_for_start_by (own p i) (d.left i) t
    at_late i (Some (MandatoryFinish x)) t latest = Ok t
    at_late i (Some AsLateAsPossible) t latest = Ok latest

    unfoldable pub limited : ℕ → Option Constraint → ℕ → Result ℕ ClockError
    limited i c latest = on_time p d (constraint_time (own p i) (on_start c)) (Ok latest) (λ t. at_late i c t latest)

    -- once work has begun a start constraint bounds nothing
    abbrev pub limited_by : ℕ → Result Actual ClockError → Option Constraint → ℕ → Result ℕ ClockError
    limited_by i (Ok Unstarted) c latest = limited i c latest
    limited_by i (Ok (Begun s)) c latest = elim (bounds_start c) [ true ↦ Ok latest | false ↦ limited i c latest ]
    limited_by i (Ok (Completed s f)) c latest = Ok latest
    limited_by i (Err k) c latest = Err k

    unfoldable pub held_late : ℕ → ℕ → Result ℕ ClockError
    held_late i latest = elim (summary p i) [
      | true ↦ Ok latest
      | false ↦
          via Err (limited_by i (recorded p i) (p.activity i).constraint latest)
          (limited_by i (recorded p i) (p.activity i).secondary_constraint)
    ]

    -- "The late finish is lifted to the early one" where it is before it, the early one is not after the latest, and the next start from it is not
    -- before the early one: they are the same moment
    unfoldable pub lifted : ℕ → ℕ → ℕ → Result ℕ ClockError
    lifted i latest f =
        elim (ltb f (d.ef i) && leb (d.ef i) latest) [
          | false ↦ Ok f
          | true ↦ via Err (latest_same (own p i) f) (λ s. elim (leb (d.ef i) s) [ true ↦ Ok (d.ef i) | false ↦ Ok f ])
        ]

    abbrev pub late : ℕ → ℕ → ℕ → Late
    late i s f = record { ls = put l.ls i s; lf = put l.lf i f }

    unfoldable pub placed_late : ℕ → ℕ → Pass Late
    placed_late i latest =
        via refused (place_finish (own p i) (kind_of p i) (d.left i) latest)
        (λ t. via refused (bounded (origin p) t)
        (λ b. via refused (lifted i latest b)
        (λ f. via refused (start_of (own p i) (d.left i) f) (λ u. via refused (bounded (origin p) u) (λ s. leaves (late i s f))))))

    abbrev pub backward_by : ℕ → ℕ → Result Actual ClockError → Pass Late
    backward_by last i (Ok (Completed s f)) = leaves (late i (d.es i) (d.ef i))
    backward_by last i (Err k) = refused k
    backward_by last i (Ok Unstarted) = via refused (lowered i (ties_out p i) last) (λ f. via refused (held_late i f) (placed_late i))
    backward_by last i (Ok (Begun s)) = via refused (lowered i (ties_out p i) last) (λ f. via refused (held_late i f) (placed_late i))

  -- `last` is the end
  unfoldable pub backward : Early → ℕ → Late → ℕ → Pass Late
  backward d last l i = backward_by d l last i (recorded p i)
