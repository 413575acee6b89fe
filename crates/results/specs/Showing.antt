-- What is shown of an activity, in the parts that the code computes: its total float, its four days and whether it is critical.
use Rattle.std.specs.Prelude.{Bool, true, false, ◌&&◌, not, ℕ, ◌/◌, ℤ, pos, ◌*ℤ◌, Result, Ok, Err}
use Rattle.worktime.specs.declared.ClockError.{ClockError}
use Rattle.worktime.specs.declared.ClockError.TheVariants.{TooLong}
use Rattle.std.specs.Int.Signed.{le_z}
use Rattle.date.specs.Years.{in_years}
use Rattle.worktime.specs.Walks.{between}
use Rattle.project.specs.declared.ActivityKind.{ActivityKind}
use Rattle.project.specs.declared.FloatKind.{FloatKind}
use Rattle.project.specs.declared.CriticalBy.{CriticalBy}
use Rattle.project.specs.declared.CriticalBy.TheVariants.{TotalFloat, LongestPath}
use Rattle.project.specs.declared.Project.{Project}
use Rattle.placing.specs.declared.Actual.{Actual}
use Rattle.order.specs.Plan.{Plan}
use Rattle.passes.specs.Plan.{begun}
use Rattle.passes.specs.Dates.{Pass, leaves, refused}
use Rattle.passes.specs.Floats.{measured, float_by, is_completed}
use Rattle.results.specs.declared.Shown.{Shown}
use Rattle.results.specs.declared.row.ShownRow.{ShownRow}
use Rattle.results.specs.declared.Times.{Times}
use Rattle.results.specs.declared.Days.{Days}
use Rattle.results.specs.Results.{start_minute, finish_minute, total_by}

-- the code's answer as the definition's
abbrev pub showing : Result ShownRow ClockError → Pass Shown
showing (Ok x) = leaves x.shown
showing (Err k) = refused k

-- all four days lie in the years that may be read
abbrev pub all_in_years : Days → Bool
all_in_years d = in_years d.ef && in_years d.es && in_years d.ls && in_years d.lf

-- x, where the days may be read
abbrev pub readable : Bool → Pass Shown → Pass Shown
readable true x = x
readable false x = refused TooLong

-- what is critical, by the day length
abbrev pub critical_in : CriticalBy → ℕ → ℤ → Bool → Bool
critical_in (TotalFloat n) day_length total path = le_z total (n *ℤ pos day_length)
critical_in LongestPath day_length total path = path

-- none of these asks anything of the plan p
module _ (p : Plan) where
  unfoldable pub total_work : (ℕ → Bool) → FloatKind → Result Actual ClockError → Times → Result ℤ ClockError
  total_work w kind a t =
      measured Err (between w t.ef t.lf)
      (λ finish_float. measured Err (between w t.es t.ls) (λ start_float. Ok (total_by a (float_by p kind finish_float start_float))))

  abbrev pub days_of : ActivityKind → Result Actual ClockError → Times → Days
  days_of kind a t = record {
    es = start_minute kind (begun p a t.es) / 1440;
    ef = finish_minute kind t.left t.ef / 1440;
    ls = start_minute kind (begun p a t.ls) / 1440;
    lf = finish_minute kind t.left t.lf / 1440;
  }

  abbrev pub critical_of : Result Actual ClockError → CriticalBy → ℕ → ℤ → Bool → Bool
  critical_of a by day_length total path = not (is_completed p a) && critical_in by day_length total path

  abbrev pub shown_of : Days → ℤ → Bool → Times → Shown
  shown_of d total critical t = record {
    days = d;
    total = total;
    free = t.free;
    critical = critical;
    path = t.path;
    finish = t.ef;
    late = t.lf;
  }

  -- what is shown, once there is a total float
  abbrev pub shown_by : Project → ActivityKind → ℕ → Result Actual ClockError → Times → ℤ → Pass Shown
  shown_by project kind day_length a t total =
      readable (all_in_years (days_of kind a t))
      (leaves (shown_of (days_of kind a t) total (critical_of a project.critical_by day_length total t.path) t))

  unfoldable pub shown_from : Project → ActivityKind → ℕ → (ℕ → Bool) → Result Actual ClockError → Times → Pass Shown
  shown_from project kind day_length w a t = measured refused (total_work w project.float_kind a t) (shown_by project kind day_length a t)
