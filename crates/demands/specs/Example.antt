-- 01's example at the level of the plan: what the definitions of the passes give it, by evaluation.
use Rattle.std.specs.Prelude.{◌≡◌, refl, List, [], ◌∷◌, ℕ, zero, suc, ◌+◌, ◌%◌, pos, negsuc, replicate, get_or, None}
use Rattle.calendar.specs.declared.Period.{Period}
use Rattle.calendar.specs.Hours.{none}
use Rattle.project.specs.declared.ActivityKind.TheVariants.{Task}
use Rattle.project.specs.declared.RelationshipType.TheVariants.{FinishToStart}
use Rattle.project.specs.declared.LagKind.TheVariants.{WorkingDays}
use Rattle.project.specs.declared.LagCalendar.TheVariants.{Predecessor}
use Rattle.project.specs.declared.FloatKind.TheVariants.{Finish}
use Rattle.project.specs.declared.ProgressMode.TheVariants.{RetainedLogic}
use Rattle.project.specs.declared.CriticalBy.TheVariants.{TotalFloat}
use Rattle.project.specs.declared.Activity.{Activity}
use Rattle.order.specs.Plan.{Plan}
use Rattle.sched.specs.Answers.{Accepted}
use Rattle.sched.specs.Outcome.{Lent}
use Rattle.worktime.specs.Walks.{reads, least, next_start, greatest, previous_finish, next_finish, working_at, previous_start, start_by, forward, advance, backward, retreat, shift, spanned, work_from, between, day_work, worked_before}
use Rattle.worktime.specs.Worked.{count, closing}
use Rattle.date.specs.Years.{in_years}
use Rattle.calendar.specs.Hours.{held, worked, rank, select, next_in, works}
use Rattle.placing.specs.Placing.{bounded, place_start, start_for_finish, is_moment, place_finish, finish_for_start, finish_for_start_by, day_start, constraint_time, actual}
use Rattle.order.specs.Ids.{known, index_from, index_of, parent_of, parent_among, summary}
use Rattle.order.specs.Ties.{ignored, tie_calendar, tie_too_long, tie_of, kept_below, ignored_below, ends_below, is_open, open_below}
use Rattle.order.specs.Lags.{working_calendar, lag_calendar, lag_minutes, lag_before, lag_too_long}
use Rattle.order.specs.Checks.{or_else, first_of, judge_calendar, judge_activity, judge_parent, judge_summary, judge_link, judge_order, before_ordering, checked}
use Rattle.calendar.specs.Records.{weekly_hours}
use Rattle.network.specs.Kahn.{put, joined, meet, release, drain, into, ready, drained, kahn, first_waiting, waiting_before, member, up_to, go_back, again, named_loop}
use Rattle.network.specs.Outgoing.{outgoing, incoming, targets, sources, targets_from, sources_from, meet_all, waiting_in}
use Rattle.cells.specs.Chain.{keyed}
use Rattle.network.specs.Parents.{above, climb, steps_back, loop_steps, upward}
use Rattle.network.specs.ParentLinks.{to_parent, parent_links, first_on_loop, parent_loop, steps_out, depth}
use Rattle.passes.specs.Plan.{recorded, full}
use Rattle.passes.specs.Dates.{through}
use Rattle.passes.specs.Forward.{left_of, left_below, forward_bound, raised, constrained, held as forward_held, minutes_from, placed, forward as forward_forward}
use Rattle.passes.specs.Backward.{greatest_below, all_summaries, finish, end, over_lag, link_finish, lowered, limited, held_late, lifted, placed_late, backward as backward_backward}
use Rattle.passes.specs.Floats.{gap, slack_by, holds_late, held_start, held_move, freed, free_float, last_ones, drives, marked, on_path}
use Rattle.passes.specs.Run.{forward_pass, backward_pass, free_pass, path_pass, run}
use Rattle.results.specs.Results.{total_of, shown, shown_below, summaries_at, deepest_first, children_below, rolled, results, finish_day}
use Rattle.results.specs.Rows.{minute_of, row_of, rows_below}
use Rattle.sched.specs.Outcome.{refused_with, accepted, planned, room_for, outcome}
use Rattle.project.specs.Status.{is_milestone, on_start, bounds_start, status_of}
use Rattle.number.specs.Sign.{min_z, max_z, clamp_z, percent_of, whole_days}

-- Monday to Friday, 480 to 960
unfoldable pub workday : List Period
workday = record { from = 480; to = 960 } ∷ replicate 7 none

unfoldable pub example_week : List (List Period)
example_week = workday ∷ workday ∷ workday ∷ workday ∷ workday ∷ replicate 8 none ∷ replicate 8 none ∷ []

unfoldable pub task : ℕ → ℕ → Activity
task id minutes = record {
  id = id;
  kind = Task;
  calendar = 0;
  parent = 0;
  minutes = pos minutes;
  actual_start = None;
  actual_finish = None;
  remaining = None;
  expected_finish = None;
  constraint = None;
  secondary_constraint = None;
  levelled = None;
}

unfoldable pub tasks : ℕ → Activity
tasks zero = task 1 960
tasks (suc i) = task 2 480

unfoldable pub example : Plan
example = record {
  project = record {
    start = record { 0 = pos 19723 };
    data_date = None;
    must_finish_by = None;
    lag_calendar = Predecessor;
    float_kind = Finish;
    progress_mode = RetainedLogic;
    critical_by = TotalFloat (pos 0);
  };
  calendars = 1;
  week = λ k. example_week;
  hours = λ k d. get_or example_week ((d + 1) % 7) [];
  day_length = λ k. 480;
  activities = 2;
  activity = tasks;
  links = 1;
  link = λ k. record { predecessor = 1; successor = 2; kind = FinishToStart; lag = WorkingDays (pos 0) };
}

unfoldable pub lent : Lent
lent = record { results = replicate 31 (negsuc 0); names = replicate 4 7; work = replicate 3 (pos 5) }

-- "plan 19725 2 0 2" and the two lines after it; the 31st result is kept
pub answered : planned lent example ≡ record {
  answer = Accepted (pos 19725) 2 0 2;
  lent = record {
    results =
        pos 1 ∷ pos 19723 ∷ pos 19724 ∷ pos 19723 ∷ pos 19724 ∷ pos 0 ∷ pos 0 ∷ pos 0 ∷ pos 0 ∷ pos 1 ∷ pos 1 ∷ pos 0 ∷ pos 960 ∷ pos 28401600 ∷ pos 28403520
        ∷ pos 2 ∷ pos 19725 ∷ pos 19725 ∷ pos 19725 ∷ pos 19725 ∷ pos 0 ∷ pos 0 ∷ pos 0 ∷ pos 0 ∷ pos 1 ∷ pos 1 ∷ pos 0 ∷ pos 480 ∷ pos 28404480 ∷ pos 28404960
        ∷ negsuc 0 ∷ [];
    names = replicate 4 0;
    work = replicate 3 (pos 0);
  };
}
unfolding workday example_week task tasks example lent reads least next_start greatest previous_finish next_finish working_at previous_start start_by forward advance backward retreat shift spanned work_from between day_work worked_before count closing in_years held worked rank select next_in works bounded place_start start_for_finish is_moment place_finish finish_for_start finish_for_start_by day_start constraint_time actual known index_from index_of parent_of parent_among summary ignored tie_calendar tie_too_long tie_of kept_below ignored_below ends_below is_open open_below working_calendar lag_calendar lag_minutes lag_before lag_too_long or_else first_of weekly_hours judge_calendar judge_activity judge_parent judge_summary judge_link judge_order before_ordering checked put joined meet release drain into ready drained kahn first_waiting waiting_before member up_to go_back again named_loop keyed outgoing incoming targets sources targets_from sources_from meet_all waiting_in above climb steps_back loop_steps upward to_parent parent_links first_on_loop parent_loop steps_out depth recorded full through left_of left_below forward_bound raised constrained forward_held minutes_from placed forward_forward greatest_below all_summaries finish end over_lag link_finish lowered limited held_late lifted placed_late backward_backward gap slack_by holds_late held_start held_move freed free_float last_ones drives marked on_path forward_pass backward_pass free_pass path_pass run total_of shown shown_below summaries_at deepest_first children_below rolled results finish_day minute_of row_of rows_below refused_with accepted planned room_for outcome is_milestone on_start bounds_start status_of min_z max_z clamp_z percent_of whole_days
answered = refl
