-- The results: each activity's days, floats and flags from what the passes leave, and summaries rolled up from their children.
use Rattle.std.specs.Prelude.{Bool, true, false, ◌&&◌, ◌||◌, not, List, [], ◌∷◌, ◌++◌, ℕ, zero, suc, ◌-◌, ◌/◌, max, min, eqb, ℤ, pos, Result, Ok, Err}
use Rattle.worktime.specs.declared.ClockError.{ClockError}
use Rattle.worktime.specs.Walks.{reads, between}
use Rattle.project.specs.declared.ActivityKind.{ActivityKind}
use Rattle.project.specs.declared.ActivityKind.TheVariants.{Task, StartMilestone, FinishMilestone}
use Rattle.placing.specs.declared.Actual.{Actual}
use Rattle.placing.specs.declared.Actual.TheVariants.{Unstarted, Begun, Completed}
use Rattle.placing.specs.Placing.{status_of}
use Rattle.network.specs.ParentLinks.{depth}
use Rattle.order.specs.Plan.{Plan}
use Rattle.order.specs.Ids.{parent_of, summary}
use Rattle.passes.specs.Plan.{own, kind_of, origin, recorded, begun}
use Rattle.passes.specs.Dates.{Pass, leaves, refused, after, put, through}
use Rattle.passes.specs.Floats.{measured, float_by, critical_by, is_completed}
use Rattle.passes.specs.Run.{Ran}
use Rattle.results.specs.declared.Shown.{Shown}

-- a start shows its day; a finish milestone the day of the minute before
abbrev pub start_minute : ActivityKind → ℕ → ℕ
start_minute Task t = t
start_minute StartMilestone t = t
start_minute FinishMilestone t = t - 1

-- "A task's finish shows the day of `ef − 1` only while minutes are left"
abbrev pub finish_minute : ActivityKind → ℕ → ℕ → ℕ
finish_minute Task zero t = t
finish_minute Task (suc m) t = t - 1
finish_minute StartMilestone m t = t
finish_minute FinishMilestone m t = t - 1

-- "status (0, 1, 2)"
abbrev pub status_number : Result Actual ClockError → ℕ
status_number (Ok a) = status_of a
status_number (Err k) = 0

-- a day that is shown lies in the years that may be read
abbrev pub shown_day : {A : Type 0} → ℕ → (ℕ → Pass A) → Pass A
shown_day t go = reads refused (t / 1440) (go (t / 1440))

-- past the activities
abbrev pub nothing : Shown
nothing = record { days = record { es = 0; ef = 0; ls = 0; lf = 0 }; total = pos 0; free = 0; critical = false; path = false; finish = 0; late = 0 }

-- "A completed activity has no float"
abbrev pub total_by : Result Actual ClockError → ℤ → ℤ
total_by (Ok Unstarted) z = z
total_by (Ok (Begun s)) z = z
total_by (Ok (Completed s f)) z = pos 0
total_by (Err k) z = z

-- ---- the least and the greatest of a row of activities, and whether one has a mark
abbrev pub least_of : (ℕ → ℕ) → ℕ → List ℕ → ℕ
least_of f least [] = least
least_of f least (c ∷ cs) = least_of f (min least (f c)) cs

abbrev pub greatest_of : (ℕ → ℕ) → ℕ → List ℕ → ℕ
greatest_of f most [] = most
greatest_of f most (c ∷ cs) = greatest_of f (max most (f c)) cs

abbrev pub some_of : (ℕ → Bool) → List ℕ → Bool
some_of f [] = false
some_of f (c ∷ cs) = f c || some_of f cs

module _ (p : Plan) (r : Ran) where
  -- ---- activities by themselves
  unfoldable pub total_of : ℕ → ℤ → ℤ → ℤ
  total_of i finish_float start_float = total_by (recorded p i) (float_by p p.project.float_kind finish_float start_float)

  unfoldable pub shown : ℕ → Pass Shown
  shown i =
      measured refused (between (own p i) (r.early.ef i) (r.late.lf i))
      (λ finish_float. measured refused (between (own p i) (r.early.es i) (r.late.ls i))
      (λ start_float. shown_day (finish_minute (kind_of p i) (r.early.left i) (r.early.ef i))
      (λ ef. shown_day (start_minute (kind_of p i) (begun p (recorded p i) (r.early.es i)))
      (λ es. shown_day (start_minute (kind_of p i) (begun p (recorded p i) (r.late.ls i)))
      (λ ls. shown_day (finish_minute (kind_of p i) (r.early.left i) (r.late.lf i))
      (λ lf.
      leaves (record {
        days = record { es = es; ef = ef; ls = ls; lf = lf };
        total = total_of i finish_float start_float;
        free = r.free i;
        critical = not (is_completed p (recorded p i)) && critical_by p i p.project.critical_by (total_of i finish_float start_float) (r.path i);
        path = r.path i;
        finish = r.early.ef i;
        late = r.late.lf i;
      })))))))

  unfoldable pub shown_below : ℕ → Pass (ℕ → Shown)
  shown_below zero = leaves (λ i. nothing)
  shown_below (suc n) = after (shown_below n) (λ f. after (shown n) (λ x. leaves (put f n x)))

  -- ---- summaries, deepest first
  -- those of the first n activities that are summaries at depth k, in sheet order
  unfoldable pub summaries_at : ℕ → ℕ → List ℕ
  summaries_at k zero = []
  summaries_at k (suc n) =
      elim (summary p n && eqb (depth (parent_of p) p.activities n) k) [ true ↦ summaries_at k n ++ (n ∷ []) | false ↦ summaries_at k n ]

  -- from depth k up to the top
  unfoldable pub deepest_first : ℕ → List ℕ
  deepest_first zero = []
  deepest_first (suc k) = summaries_at (suc k) p.activities ++ deepest_first k

  -- the children of s among the first n
  unfoldable pub children_below : ℕ → ℕ → List ℕ
  children_below s zero = []
  children_below s (suc n) = elim (eqb (parent_of p n) (suc s)) [ true ↦ children_below s n ++ (n ∷ []) | false ↦ children_below s n ]

  -- a summary's dates are its children's, its float counts on its own calendar from their greatest early finish to their greatest late one
  abbrev pub rolled_from : (ℕ → Shown) → ℕ → List ℕ → Pass (ℕ → Shown)
  rolled_from f s [] = leaves f
  rolled_from f s (c ∷ cs) =
      measured refused
      (between (own p s) (greatest_of (λ k. (f k).finish) (f c).finish cs) (greatest_of (λ k. (f k).late) (f c).late cs))
      (λ total.
      leaves
      (put f s
      (record {
        days = record {
          es = least_of (λ k. (f k).days.es) (f c).days.es cs;
          ef = greatest_of (λ k. (f k).days.ef) (f c).days.ef cs;
          ls = least_of (λ k. (f k).days.ls) (f c).days.ls cs;
          lf = greatest_of (λ k. (f k).days.lf) (f c).days.lf cs;
        };
        total = total;
        free = 0;
        critical = critical_by p s p.project.critical_by total (some_of (λ k. (f k).path) (c ∷ cs));
        path = some_of (λ k. (f k).path) (c ∷ cs);
        finish = greatest_of (λ k. (f k).finish) (f c).finish cs;
        late = greatest_of (λ k. (f k).late) (f c).late cs;
      })))

  unfoldable pub rolled : (ℕ → Shown) → ℕ → Pass (ℕ → Shown)
  rolled f s = rolled_from f s (children_below s p.activities)

  unfoldable pub results : Pass (ℕ → Shown)
  results = after (shown_below p.activities) (through rolled (deepest_first p.activities))

  -- "finish day": the greatest early finish day, and not before the start
  unfoldable pub finish_day : (ℕ → Shown) → ℕ → ℕ
  finish_day f zero = origin p / 1440
  finish_day f (suc n) = max (finish_day f n) (f n).days.ef
