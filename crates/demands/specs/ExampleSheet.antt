-- 01's example sheet, byte by byte: what `outcome` gives it is what 01 prints, by evaluation.
use Rattle.std.specs.Prelude.{◌≡◌, refl, List, [], ◌∷◌, ℕ, pos, negsuc, replicate}
use Rattle.sched.specs.Answers.{Accepted}
use Rattle.sched.specs.Outcome.{Lent}
use Rattle.sheet.specs.Reading.{run, run_of, calendar_end, calendars_from, read_sheet}
use Rattle.judges.specs.Judging.{judged, judge_calendar, period_ok, week_after, judge_week, no_work, exception_after, judge_exception, judge_activity, judge_link}
use Rattle.sheet.specs.Places.{week_count, exceptions_at, exception_count, next_calendar, place_at, calendar_at, week_at}
use Rattle.project.specs.Fields.{day_ok, day_or_absent, header_ok, calendar_ok, constraint_ok, activity_ok, link_ok}
use Rattle.project.specs.Records.{optional_date_at, remaining_at, activity_kind_of, constraint_of, activity_at, relationship_type_of, lag_of, relationship_at, lag_calendar_of, float_kind_of, progress_mode_of, critical_by_of, project_at}
use Rattle.calendar.specs.Records.{week_periods, week_of, round_the_clock, exceptions_on, hours_on, record_periods, periods_of}
use Rattle.number.specs.Bytes.{u16_at, u32_at, signed32, i32_at, biased_at}
use Rattle.order.specs.Plan.{week_of_calendar, exception_place, exception_number, hours_of_calendar, day_length_of_calendar, plan_of}
use Rattle.worktime.specs.Walks.{reads, least, next_start, greatest, previous_finish, next_finish, working_at, previous_start, start_by, forward, advance, backward, retreat, shift, spanned, work_from, between, day_work, worked_before}
use Rattle.worktime.specs.Worked.{count, closing}
use Rattle.date.specs.Years.{in_years}
use Rattle.calendar.specs.Hours.{held, worked, rank, select, next_in, works}
use Rattle.placing.specs.Placing.{bounded, place_start, start_for_finish, is_moment, place_finish, finish_for_start, finish_for_start_by, day_start, constraint_time, actual}
use Rattle.order.specs.Ids.{known, index_from, index_of, parent_of, parent_among, summary}
use Rattle.order.specs.Ties.{ignored, tie_calendar, tie_too_long, tie_of, kept_below, ignored_below, ends_below, is_open, open_below}
use Rattle.order.specs.Lags.{working_calendar, lag_calendar, lag_minutes, lag_before, lag_too_long}
use Rattle.order.specs.Checks.{or_else, first_of, judge_calendar as checks_judge_calendar, judge_activity as checks_judge_activity, judge_parent, judge_summary, judge_link as checks_judge_link, judge_order, before_ordering, checked}
use Rattle.calendar.specs.Records.{weekly_hours}
use Rattle.network.specs.Kahn.{put, joined, meet, release, drain, into, ready, drained, kahn, first_waiting, waiting_before, member, up_to, go_back, again, named_loop}
use Rattle.network.specs.Outgoing.{outgoing, incoming, targets, sources, targets_from, sources_from, meet_all, waiting_in}
use Rattle.cells.specs.Chain.{keyed}
use Rattle.network.specs.Parents.{above, climb, steps_back, loop_steps, upward}
use Rattle.network.specs.ParentLinks.{to_parent, parent_links, first_on_loop, parent_loop, steps_out, depth}
use Rattle.passes.specs.Plan.{recorded, full}
use Rattle.passes.specs.Dates.{through}
use Rattle.passes.specs.Forward.{left_of, left_below, forward_bound, raised, constrained, held as forward_held, minutes_from, placed, forward as forward_forward}
use Rattle.passes.specs.Backward.{greatest_below, all_summaries, finish, end, over_lag, link_finish, lowered, limited, held_late, lifted, placed_late, backward as backward_backward}
use Rattle.passes.specs.Floats.{gap, slack_by, holds_late, held_start, held_move, freed, free_float, last_ones, drives, marked, on_path}
use Rattle.passes.specs.Run.{forward_pass, backward_pass, free_pass, path_pass, run as run_run}
use Rattle.results.specs.Results.{total_of, shown, shown_below, summaries_at, deepest_first, children_below, rolled, results, finish_day}
use Rattle.results.specs.Rows.{minute_of, row_of, rows_below}
use Rattle.sched.specs.Outcome.{refused_with, accepted, planned, room_for, outcome}
use Rattle.project.specs.Status.{is_milestone, on_start, bounds_start, status_of}
use Rattle.number.specs.Sign.{min_z, max_z, clamp_z, percent_of, whole_days}

unfoldable pub example_sheet : List ℕ
example_sheet = 80 ∷ 11 ∷ 77 ∷ 0 ∷ 0 ∷ 0 ∷ 0 ∷ 0 ∷ 128 ∷ 0 ∷ 0 ∷ 0 ∷ 128 ∷ 0 ∷ 0 ∷ 0 ∷ 0 ∷ 0 ∷ 0 ∷ 0 ∷ 0 ∷ 67 ∷ 224 ∷ 1 ∷ 87 ∷ 0 ∷ 224 ∷ 1 ∷ 192 ∷ 3 ∷ 87 ∷ 1 ∷ 224 ∷ 1 ∷ 192 ∷ 3 ∷ 87 ∷ 2 ∷ 224 ∷ 1 ∷ 192 ∷ 3 ∷ 87 ∷ 3 ∷ 224 ∷ 1 ∷ 192 ∷ 3 ∷ 87 ∷ 4 ∷ 224 ∷ 1 ∷ 192 ∷ 3 ∷ 65 ∷ 1 ∷ 0 ∷ 0 ∷ 0 ∷ 0 ∷ 0 ∷ 0 ∷ 0 ∷ 0 ∷ 0 ∷ 192 ∷ 3 ∷ 0 ∷ 0 ∷ 0 ∷ 0 ∷ 0 ∷ 128 ∷ 0 ∷ 0 ∷ 0 ∷ 128 ∷ 0 ∷ 0 ∷ 0 ∷ 128 ∷ 0 ∷ 0 ∷ 0 ∷ 128 ∷ 0 ∷ 0 ∷ 0 ∷ 0 ∷ 0 ∷ 0 ∷ 0 ∷ 0 ∷ 0 ∷ 0 ∷ 0 ∷ 0 ∷ 0 ∷ 128 ∷ 65 ∷ 2 ∷ 0 ∷ 0 ∷ 0 ∷ 0 ∷ 0 ∷ 0 ∷ 0 ∷ 0 ∷ 0 ∷ 224 ∷ 1 ∷ 0 ∷ 0 ∷ 0 ∷ 0 ∷ 0 ∷ 128 ∷ 0 ∷ 0 ∷ 0 ∷ 128 ∷ 0 ∷ 0 ∷ 0 ∷ 128 ∷ 0 ∷ 0 ∷ 0 ∷ 128 ∷ 0 ∷ 0 ∷ 0 ∷ 0 ∷ 0 ∷ 0 ∷ 0 ∷ 0 ∷ 0 ∷ 0 ∷ 0 ∷ 0 ∷ 0 ∷ 128 ∷ 76 ∷ 1 ∷ 0 ∷ 0 ∷ 0 ∷ 2 ∷ 0 ∷ 0 ∷ 0 ∷ 0 ∷ 0 ∷ 0 ∷ 0 ∷ 0 ∷ 0 ∷ 0 ∷ []

unfoldable pub lent : Lent
lent = record { results = replicate 31 (negsuc 0); names = replicate 4 7; work = replicate 145 (pos 5) }

pub answered : outcome example_sheet lent ≡ record {
  answer = Accepted (pos 19725) 2 0 2;
  lent = record {
    results =
        pos 1 ∷ pos 19723 ∷ pos 19724 ∷ pos 19723 ∷ pos 19724 ∷ pos 0 ∷ pos 0 ∷ pos 0 ∷ pos 0 ∷ pos 1 ∷ pos 1 ∷ pos 0 ∷ pos 960 ∷ pos 28401600 ∷ pos 28403520
        ∷ pos 2 ∷ pos 19725 ∷ pos 19725 ∷ pos 19725 ∷ pos 19725 ∷ pos 0 ∷ pos 0 ∷ pos 0 ∷ pos 0 ∷ pos 1 ∷ pos 1 ∷ pos 0 ∷ pos 480 ∷ pos 28404480 ∷ pos 28404960
        ∷ negsuc 0 ∷ [];
    names = replicate 4 0;
    work = replicate 145 (pos 0);
  };
}
unfolding example_sheet lent judged judge_calendar period_ok week_after judge_week no_work exception_after judge_exception judge_activity judge_link run run_of calendars_from read_sheet week_count exceptions_at exception_count next_calendar place_at calendar_at week_at calendar_end day_ok day_or_absent header_ok calendar_ok constraint_ok activity_ok link_ok optional_date_at remaining_at activity_kind_of constraint_of activity_at relationship_type_of lag_of relationship_at lag_calendar_of float_kind_of progress_mode_of critical_by_of project_at week_periods week_of round_the_clock exceptions_on hours_on record_periods periods_of u16_at u32_at signed32 i32_at biased_at week_of_calendar exception_place exception_number hours_of_calendar day_length_of_calendar plan_of reads least next_start greatest previous_finish next_finish working_at previous_start start_by forward advance backward retreat shift spanned work_from between day_work worked_before count closing in_years held worked rank select next_in works bounded place_start start_for_finish is_moment place_finish finish_for_start finish_for_start_by day_start constraint_time actual known index_from index_of parent_of parent_among summary ignored tie_calendar tie_too_long tie_of kept_below ignored_below ends_below is_open open_below working_calendar lag_calendar lag_minutes lag_before lag_too_long or_else first_of weekly_hours checks_judge_calendar checks_judge_activity judge_parent judge_summary checks_judge_link judge_order before_ordering checked put joined meet release drain into ready drained kahn first_waiting waiting_before member up_to go_back again named_loop keyed outgoing incoming targets sources targets_from sources_from meet_all waiting_in above climb steps_back loop_steps upward to_parent parent_links first_on_loop parent_loop steps_out depth recorded full through left_of left_below forward_bound raised constrained forward_held minutes_from placed forward_forward greatest_below all_summaries finish end over_lag link_finish lowered limited held_late lifted placed_late backward_backward gap slack_by holds_late held_start held_move freed free_float last_ones drives marked on_path forward_pass backward_pass free_pass path_pass run_run total_of shown shown_below summaries_at deepest_first children_below rolled results finish_day minute_of row_of rows_below refused_with accepted planned room_for outcome is_milestone on_start bounds_start status_of min_z max_z clamp_z percent_of whole_days
answered = refl
