-- 01's thirteen marked instances: one table, proved by one evaluation of the definitions. "that week": it begins on Monday, day 19723.
use Rattle.std.specs.Prelude.{◌≡◌, refl, List, [], ◌∷◌, map, ℕ, zero, suc, ℤ, pos, negsuc, Result, Ok}
use Rattle.worktime.specs.declared.ClockError.{ClockError}
use Rattle.number.specs.Sign.{clamp_z, percent_of, whole_days}
use Rattle.date.specs.Years.{in_years}
use Rattle.calendar.specs.Hours.{held, worked, works}
use Rattle.calendar.specs.Records.{hours_on, exceptions_on, weekly_hours}
use Rattle.clock.specs.Instances.{day, week, w, at}
use Rattle.worktime.specs.Worked.{closing}
use Rattle.worktime.specs.Walks.{reads, next_start, least, previous_finish, greatest, next_finish, start_by, advance, forward, retreat, backward, spanned, work_from, between}
use Rattle.project.specs.declared.RelationshipType.TheVariants.{FinishToStart}
use Rattle.project.specs.declared.Relationship.{Relationship}
use Rattle.project.specs.declared.LagKind.TheVariants.{WorkingDays, Percent}
use Rattle.project.specs.Status.{is_milestone}
use Rattle.placing.specs.Placing.{start_for_finish}
use Rattle.network.specs.Kahn.{put, joined, meet, release, drain, into, ready, drained, kahn, first_waiting, waiting_before, member, up_to, go_back, again, named_loop}
use Rattle.network.specs.Parents.{above, climb, steps_back, loop_steps, upward}
use Rattle.order.specs.Plan.{Plan}
use Rattle.order.specs.Ids.{known, index_from, index_of, parent_of, parent_among, summary}
use Rattle.order.specs.Lags.{working_calendar, lag_calendar, lag_minutes, lag_before, lag_too_long}
use Rattle.order.specs.Ties.{ignored, tie_calendar, tie_too_long, ends_below}
use Rattle.order.specs.Checks.{or_else, first_of, judge_calendar, judge_activity, judge_parent, judge_summary, judge_link, judge_order, before_ordering, checked}
use Rattle.demands.specs.Example.{workday, example_week, task, tasks, example}

-- what an instance is about
pub data Value : Type 0 where
  walk : Result ℕ ClockError → Value
  work : Result ℤ ClockError → Value
  whole : ℤ → Value
  ids : List ℕ → Value

-- what the definitions give beside what 01 says
pub record Instance : Type 0 where
  pub given : Value
  pub said : Value

-- "1 to 2, 2 to 1", of the example's two tasks
abbrev link : ℕ → ℕ → Relationship
link a b = record { predecessor = a; successor = b; kind = FinishToStart; lag = WorkingDays (pos 0) }

abbrev links : ℕ → Relationship
links zero = link 1 2
links (suc k) = link 2 1

unfoldable pub looping : Plan
looping = record {
  project = example.project;
  calendars = example.calendars;
  week = example.week;
  hours = example.hours;
  day_length = example.day_length;
  activities = 2;
  activity = example.activity;
  links = 2;
  link = links;
}

abbrev is : Value → Value → Instance
is x y = record { given = x; said = y }

unfoldable pub marked : List Instance
marked =
    is (walk (next_start w (at 4 960))) (walk (Ok (at 7 480)))
    ∷ is (walk (next_start w (at 0 959))) (walk (Ok (at 0 959)))
    ∷ is (walk (previous_finish w (at 7 480))) (walk (Ok (at 4 960)))
    ∷ is (walk (advance w (at 4 960) 1)) (walk (Ok (at 7 481)))
    ∷ is (walk (advance w (at 5 0) 0)) (walk (Ok (at 5 0)))
    ∷ is (walk (retreat w (at 7 480) 1)) (walk (Ok (at 4 959)))
    ∷ is (work (between w (at 1 480) (at 0 480))) (work (Ok (negsuc 479)))
    ∷ is (walk (start_by w (at 5 720))) (walk (Ok (at 4 959)))
    ∷ is (walk (next_finish w (at 4 960))) (walk (Ok (at 4 960)))
    ∷ is (walk (start_for_finish w 480 (at 5 720))) (walk (Ok (at 4 480)))
    ∷ is (whole (lag_minutes (Percent (negsuc 4999)) 480 (pos 961))) (whole (negsuc 479))
    ∷ is (whole (whole_days (negsuc 469) 480)) (whole (pos 0))
    ∷ is (ids (checked looping).loop) (ids (2 ∷ 1 ∷ 2 ∷ []))
    ∷ []

-- each is what 01 says
pub all_said : map (λ (x : Instance). x.given) marked ≡ map (λ (x : Instance). x.said) marked
unfolding marked looping workday example_week task tasks example day week w at hours_on exceptions_on held worked works in_years reads next_start least previous_finish greatest next_finish start_by advance forward retreat backward spanned work_from between closing start_for_finish clamp_z percent_of whole_days weekly_hours is_milestone put joined meet release drain into ready drained kahn first_waiting waiting_before member up_to go_back again named_loop above climb steps_back loop_steps upward known index_from index_of parent_of parent_among summary working_calendar lag_calendar lag_minutes lag_before lag_too_long ignored tie_calendar tie_too_long ends_below or_else first_of judge_calendar judge_activity judge_parent judge_summary judge_link judge_order before_ordering checked
all_said = refl
