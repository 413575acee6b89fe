-- Work left and the forward pass: early starts and finishes. "[..] the precedence diagramming method as textbooks state it", and 000 where that is silent.
use Rattle.std.specs.Prelude.{true, false, List, [], ◌∷◌, ℕ, zero, suc, ◌-◌, max, min, ℤ, Result, Ok, Err, Option, Some, None}
use Rattle.worktime.specs.declared.ClockError.{ClockError}
use Rattle.date.specs.declared.Date.{Date}
use Rattle.number.specs.Zed.{up}
use Rattle.worktime.specs.Walks.{previous_finish, shift, between}
use Rattle.project.specs.declared.ActivityKind.{ActivityKind}
use Rattle.project.specs.declared.ActivityKind.TheVariants.{Task, StartMilestone, FinishMilestone}
use Rattle.project.specs.declared.Constraint.{Constraint}
use Rattle.project.specs.declared.Constraint.TheVariants.{StartOnOrAfter, StartOnOrBefore, FinishOnOrAfter, FinishOnOrBefore, StartOn, FinishOn, MandatoryStart, MandatoryFinish, AsLateAsPossible}
use Rattle.project.specs.declared.ProgressMode.{ProgressMode}
use Rattle.project.specs.declared.ProgressMode.TheVariants.{RetainedLogic, ProgressOverride}
use Rattle.project.specs.declared.RelationshipType.{RelationshipType}
use Rattle.project.specs.declared.RelationshipType.TheVariants.{FinishToStart, StartToStart, FinishToFinish, StartToFinish}
use Rattle.project.specs.declared.End.TheVariants.{Start}
use Rattle.project.specs.Status.{on_start}
use Rattle.placing.specs.declared.Actual.{Actual}
use Rattle.placing.specs.declared.Actual.TheVariants.{Unstarted, Begun, Completed}
use Rattle.placing.specs.Placing.{via, bounded, midnight_of, place_start, finish_of, start_for_finish, constraint_time}
use Rattle.order.specs.Plan.{Plan}
use Rattle.order.specs.Ids.{summary}
use Rattle.order.specs.Ties.{Tie}
use Rattle.passes.specs.Plan.{evening, own, lag_own, tie, ties_into, kind_of, origin, floor, recorded, begun, full}
use Rattle.passes.specs.Dates.{Early, Pass, leaves, refused, put}

-- minutes of work counted between two times, of which the second is not the earlier
abbrev pub counted : {A : Type 0} → (ClockError → A) → Result ℤ ClockError → (ℕ → A) → A
counted refusal (Ok z) go = go (up z)
counted refusal (Err k) go = refusal k

module _ (p : Plan) where
  -- ---- the work left before the passes: "none once completed"; under way "what it says, else its duration less the work" done by the data day
  -- "negatives clamp to 0", and the rest to 144,000,000
  abbrev pub to_minutes : ℤ → ℕ
  to_minutes z = min (up z) 144000000

  abbrev pub since_start : ℕ → ℕ → Option Date → Result ℕ ClockError
  since_start i s None = Ok (full p i)
  since_start i s (Some d) = counted Err (between (own p i) s (max (midnight_of d) s)) (λ done. Ok (full p i - done))

  abbrev pub still_left : ℕ → ℕ → Option ℤ → Result ℕ ClockError
  still_left i s (Some m) = Ok (to_minutes m)
  still_left i s None = since_start i s p.project.data_date

  abbrev pub left_by : ℕ → Result Actual ClockError → Result ℕ ClockError
  left_by i (Ok Unstarted) = Ok (full p i)
  left_by i (Ok (Begun s)) = still_left i s (p.activity i).remaining
  left_by i (Ok (Completed s f)) = Ok 0
  left_by i (Err k) = Err k

  unfoldable pub left_of : ℕ → Result ℕ ClockError
  left_of i = left_by i (recorded p i)

  -- the work left of the first n activities, in sheet order
  unfoldable pub left_below : ℕ → Pass (ℕ → ℕ)
  left_below zero = leaves (λ i. 0)
  left_below (suc n) = elim (left_below n) [ leaves f ↦ via refused (left_of n) (λ m. leaves (put f n m)) | refused k ↦ refused k ]

  -- ---- the bound that a kept link puts on its successor, from its predecessor's early dates, over the lag on the lag's calendar
  abbrev pub source_of : RelationshipType → ℕ → ℕ → ℕ
  source_of FinishToStart es ef = ef
  source_of FinishToFinish es ef = ef
  source_of StartToStart es ef = es
  source_of StartToFinish es ef = es

  unfoldable pub forward_bound : Tie → ℕ → ℕ → Result ℕ ClockError
  forward_bound t es ef = via Err (shift (lag_own p t) (source_of t.kind es ef) t.lag) (bounded (origin p))

  -- the earliest start that such a bound leaves activity i: a bound on the finish counts back on i's own calendar
  abbrev pub start_for : ℕ → ℕ → RelationshipType → ℕ → Result ℕ ClockError
  start_for i m FinishToStart b = Ok b
  start_for i m StartToStart b = Ok b
  start_for i m FinishToFinish b = start_for_finish (own p i) m b
  start_for i m StartToFinish b = start_for_finish (own p i) m b

  module _ (d : Early) where
    -- the bound of the t-th kept link, its predecessor's start as recorded once begun
    abbrev pub link_bound : ℕ → Result ℕ ClockError
    link_bound t =
        forward_bound (tie p t) (begun p (recorded p (tie p t).from) (d.es (tie p t).from)) (d.ef (tie p t).from)

    abbrev pub link_start : ℕ → ℕ → Result ℕ ClockError
    link_start i t = via Err (link_bound t) (start_for i (d.left i) (tie p t).kind)

    -- raised by each link into i, in rising order
    unfoldable pub raised : ℕ → List ℕ → ℕ → Result ℕ ClockError
    raised i [] start = Ok start
    raised i (t ∷ ts) start = via Err (link_start i t) (λ s. raised i ts (max start s))

    -- ---- constraints of work that has not begun: no earlier than their date; a mandatory one on it, but not before the floor
    abbrev pub at_early : ℕ → Option Constraint → ℕ → ℕ → Result ℕ ClockError
    at_early i None t start = Ok start
    at_early i (Some (StartOnOrAfter x)) t start = Ok (max start t)
    at_early i (Some (StartOnOrBefore x)) t start = Ok start
    at_early i (Some (FinishOnOrAfter x)) t start = via Err (start_for_finish (own p i) (d.left i) t) (λ s. Ok (max start s))
    at_early i (Some (FinishOnOrBefore x)) t start = Ok start
    at_early i (Some (StartOn x)) t start = Ok (max start t)
    at_early i (Some (FinishOn x)) t start = via Err (start_for_finish (own p i) (d.left i) t) (λ s. Ok (max start s))
    at_early i (Some (MandatoryStart x)) t start = Ok (max t (floor p))
    at_early i (Some (MandatoryFinish x)) t start = via Err (start_for_finish (own p i) (d.left i) t) (λ s. Ok (max s (floor p)))
    at_early i (Some AsLateAsPossible) t start = Ok start

    -- what follows a constraint's time, which is bounded
    abbrev pub on_time : Result (Option ℕ) ClockError → Result ℕ ClockError → (ℕ → Result ℕ ClockError) → Result ℕ ClockError
    on_time (Ok (Some t)) none go = via Err (bounded (origin p) t) go
    on_time (Ok None) none go = none
    on_time (Err k) none go = Err k

    unfoldable pub constrained : ℕ → Option Constraint → ℕ → Result ℕ ClockError
    constrained i c start = on_time (constraint_time (own p i) (on_start c)) (Ok start) (λ t. at_early i c t start)

    abbrev pub levelled : ℕ → Option Date → ℕ → Result ℕ ClockError
    levelled i None start = Ok start
    levelled i (Some x) start = on_time (constraint_time (own p i) (Some (Start x))) (Ok start) (λ t. Ok (max start t))

    -- both constraints in turn, then the levelled start; a summary has none
    unfoldable pub held : ℕ → ℕ → Result ℕ ClockError
    held i start = elim (summary p i) [
      | true ↦ Ok start
      | false ↦
          via Err (constrained i (p.activity i).constraint start)
          (λ s. via Err (constrained i (p.activity i).secondary_constraint s) (levelled i (p.activity i).levelled))
    ]

    -- ---- work under way goes on from the data day, after its predecessors with retained logic, at once with progress override; without a data
    -- day from its recorded start
    abbrev pub resumed : ℕ → Option Date → ProgressMode → ℕ → ℕ
    resumed s None mode start = s
    resumed s (Some x) RetainedLogic start = start
    resumed s (Some x) ProgressOverride start = floor p

    abbrev pub start_by : ℕ → Result Actual ClockError → ℕ → Result ℕ ClockError
    start_by i (Ok Unstarted) start = held i start
    start_by i (Ok (Begun s)) start = Ok (resumed s p.project.data_date p.project.progress_mode start)
    start_by i (Ok (Completed s f)) start = Ok start
    start_by i (Err k) start = Err k

    -- ---- an expected finish resets the minutes: the work from the start to that evening on i's own calendar, none where it is past
    abbrev pub expected_on : ℕ → ActivityKind → Option Date
    expected_on i Task = (p.activity i).expected_finish
    expected_on i StartMilestone = None
    expected_on i FinishMilestone = None

    abbrev pub work_to : ℕ → ℕ → Option Date → Result ℕ ClockError
    work_to i s None = Ok (d.left i)
    work_to i s (Some x) =
        via Err (previous_finish (own p i) (evening (midnight_of x)))
        (λ e. via Err (bounded (origin p) e) (λ b. counted Err (between (own p i) s (max b s)) Ok))

    unfoldable pub minutes_from : ℕ → ℕ → Result ℕ ClockError
    minutes_from i s = elim (summary p i) [ true ↦ Ok (d.left i) | false ↦ work_to i s (expected_on i (kind_of p i)) ]

    -- ---- activity i placed
    abbrev pub early : ℕ → ℕ → ℕ → ℕ → Early
    early i s f m = record { es = put d.es i s; ef = put d.ef i f; left = put d.left i m }

    unfoldable pub placed : ℕ → ℕ → Pass Early
    placed i start =
        via refused (place_start (own p i) (kind_of p i) start)
        (λ t. via refused (bounded (origin p) t)
        (λ s. via refused (minutes_from i s)
        (λ m. via refused (finish_of (own p i) m s) (λ g. via refused (bounded (origin p) g) (λ f. leaves (early i s f m))))))

    -- "A completed activity stays where it happened."
    abbrev pub forward_by : ℕ → Result Actual ClockError → Pass Early
    forward_by i (Ok (Completed s f)) = leaves (early i s f (d.left i))
    forward_by i (Err k) = refused k
    forward_by i (Ok Unstarted) = via refused (raised i (ties_into p i) (floor p)) (λ r. via refused (start_by i (Ok Unstarted) r) (placed i))
    forward_by i (Ok (Begun s)) = via refused (raised i (ties_into p i) (floor p)) (λ r. via refused (start_by i (Ok (Begun s)) r) (placed i))

  unfoldable pub forward : Early → ℕ → Pass Early
  forward d i = forward_by d i (recorded p i)
