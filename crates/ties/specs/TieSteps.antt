-- The marks, the calendar and the length of a link's lag, as the code finds them from its ends.
use Rattle.std.specs.Prelude.{◌≡◌, ◌||◌, ℕ, ℤ}
use Rattle.std.proofs.Math.Path.{sym}
use Rattle.std.proofs.Math.Dec.{ltb}
use Rattle.memory.specs.State.{State}
use Rattle.memory.specs.Fields.{is_summary}
use Rattle.project.specs.declared.LagKind.{LagKind}
use Rattle.project.specs.declared.LagCalendar.{LagCalendar}
use Rattle.order.specs.Plan.{Plan}
use Rattle.order.specs.Ids.{summary}
use Rattle.order.specs.Lags.{lag_calendar, lag_too_long}
use Rattle.order.specs.Ties.{ignored, calendar_of, tie_calendar, tie_too_long}
use Rattle.number.specs.BitLaws.{mark_flag}
use Rattle.ids.specs.Parented.{Parented}
use Rattle.ids.specs.SummaryLaws.{marks_summary}
use Rattle.ties.specs.Ends.{Between}

module _ (p : Plan) (k from to : ℕ) (E : Between p k from to) where
  pub marked_ignored : (S : State) → Parented p S p.activities → (ltb 0 (S.act is_summary from) || ltb 0 (S.act is_summary to)) ≡ ignored p k
  unfolding ignored
  marked_ignored S P =
      let a : ltb 0 (S.act is_summary from) ≡ summary p from = mark_flag (summary p from) (marks_summary p S P from E.from_below) in
      let b : ltb 0 (S.act is_summary to) ≡ summary p to = mark_flag (summary p to) (marks_summary p S P to E.to_below) in
      rw (a, b, sym E.from_is, sym E.to_is)

  pub calendar_is : (lag : LagKind) (by : LagCalendar) (pred succ : ℕ) → lag ≡ (p.link k).lag → by ≡ p.project.lag_calendar → pred ≡ calendar_of p from → succ ≡ calendar_of p to
      → lag_calendar lag by pred succ p.calendars ≡ tie_calendar p k
  unfolding tie_calendar
  calendar_is lag by pred succ e f g h = rw (e, f, g, h, E.from_is, E.to_is)

  pub long_is : (lag : LagKind) (length : ℕ) (minutes : ℤ) → lag ≡ (p.link k).lag → length ≡ p.day_length (tie_calendar p k) → minutes ≡ (p.activity from).minutes
      → lag_too_long lag length minutes ≡ tie_too_long p k
  unfolding tie_too_long
  long_is lag length minutes e f g = rw (e, f, g, E.from_is)
