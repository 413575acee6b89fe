-- 01's example and the timetable rules: its early starts obey them, and a timetable with a start a minute earlier does not.
use Rattle.std.specs.Prelude.{◌≡◌, refl, false, ℕ, zero, suc, ℤ, pos}
use Rattle.std.proofs.Common.{arith}
use Rattle.date.specs.Days.{signed_minute}
use Rattle.cells.specs.Chain.{keyed}
use Rattle.project.specs.declared.ActivityKind.TheVariants.{Task, FinishMilestone}
use Rattle.passes.specs.Dates.{Early, Pass, leaves, refused}
use Rattle.passes.specs.Run.{Ran}
use Rattle.timetable.specs.Rules.{Obeys}
use Rattle.timetable.specs.Fit.{Fit}
use Rattle.timetable.proofs.Earliest.{Momentary}
use Rattle.timetable.proofs.Demand.{run_obeys, earlier_disobeys}
use Rattle.demands.specs.Example.{workday, example_week, task, tasks, example}
use Rattle.worktime.specs.Walks.{reads, least, next_start, greatest, previous_finish, next_finish, working_at, previous_start, start_by, forward, advance, backward, retreat, shift, spanned, work_from, between, day_work, worked_before}
use Rattle.worktime.specs.Worked.{count, closing}
use Rattle.date.specs.Years.{in_years}
use Rattle.calendar.specs.Hours.{held, worked, rank, select, next_in, works}
use Rattle.placing.specs.Placing.{bounded, place_start, start_for_finish, is_moment, place_finish, finish_for_start, finish_for_start_by, day_start, constraint_time, actual}
use Rattle.order.specs.Ids.{known, index_from, index_of, parent_of, parent_among, summary}
use Rattle.order.specs.Ties.{ignored, tie_calendar, tie_too_long, tie_of, kept_below, ignored_below, ends_below, is_open, open_below}
use Rattle.order.specs.Lags.{working_calendar, lag_calendar, lag_minutes, lag_before, lag_too_long}
use Rattle.order.specs.Checks.{or_else, first_of, judge_calendar, judge_activity, judge_parent, judge_summary, judge_link, judge_order, before_ordering, checked}
use Rattle.calendar.specs.Records.{weekly_hours}
use Rattle.network.specs.Kahn.{put, joined, meet, release, drain, into, ready, drained, kahn, first_waiting, waiting_before, member, up_to, go_back, again, named_loop}
use Rattle.network.specs.Outgoing.{outgoing, incoming, targets, sources, targets_from, sources_from, meet_all, waiting_in}
use Rattle.network.specs.Parents.{above, climb, steps_back, loop_steps, upward}
use Rattle.network.specs.ParentLinks.{to_parent, parent_links, first_on_loop, parent_loop, steps_out, depth}
use Rattle.passes.specs.Plan.{recorded, full}
use Rattle.passes.specs.Dates.{through}
use Rattle.passes.specs.Forward.{left_of, left_below, forward_bound, raised, constrained, held as forward_held, minutes_from, placed, forward as forward_forward}
use Rattle.passes.specs.Backward.{greatest_below, all_summaries, finish, end, over_lag, link_finish, lowered, limited, held_late, lifted, placed_late, backward as backward_backward}
use Rattle.passes.specs.Floats.{gap, slack_by, holds_late, held_start, held_move, freed, free_float, last_ones, drives, marked, on_path}
use Rattle.passes.specs.Run.{forward_pass, backward_pass, free_pass, path_pass, run}
use Rattle.results.specs.Results.{total_of, shown, shown_below, summaries_at, deepest_first, children_below, rolled, results, finish_day}
use Rattle.results.specs.Rows.{minute_of, row_of, rows_below}
use Rattle.sched.specs.Outcome.{refused_with, accepted, planned, room_for, outcome}
use Rattle.project.specs.Status.{is_milestone, on_start, bounds_start, status_of}
use Rattle.number.specs.Sign.{min_z, max_z, clamp_z, percent_of, whole_days}

abbrev pub nowhere : Early
nowhere = record { es = λ i. 0; ef = λ i. 0; left = λ i. 0 }

abbrev pub value_of : Pass Ran → Ran
value_of (leaves r) = r
value_of (refused k) = record { early = nowhere; late = record { ls = λ i. 0; lf = λ i. 0 }; free = λ i. 0; path = λ i. false }

unfoldable pub ran : Ran
ran = value_of (run example)

runs : run example ≡ leaves ran
unfolding ran workday example_week task tasks example reads least next_start greatest previous_finish next_finish working_at previous_start start_by forward advance backward retreat shift spanned work_from between day_work worked_before count closing in_years held worked rank select next_in works bounded place_start start_for_finish is_moment place_finish finish_for_start finish_for_start_by day_start constraint_time actual known index_from index_of parent_of parent_among summary ignored tie_calendar tie_too_long tie_of kept_below ignored_below ends_below is_open open_below working_calendar lag_calendar lag_minutes lag_before lag_too_long or_else first_of weekly_hours judge_calendar judge_activity judge_parent judge_summary judge_link judge_order before_ordering checked put joined meet release drain into ready drained kahn first_waiting waiting_before member up_to go_back again named_loop keyed outgoing incoming targets sources targets_from sources_from meet_all waiting_in above climb steps_back loop_steps upward to_parent parent_links first_on_loop parent_loop steps_out depth recorded full through left_of left_below forward_bound raised constrained forward_held minutes_from placed forward_forward greatest_below all_summaries finish end over_lag link_finish lowered limited held_late lifted placed_late backward_backward gap slack_by holds_late held_start held_move freed free_float last_ones drives marked on_path forward_pass backward_pass free_pass path_pass run total_of shown shown_below summaries_at deepest_first children_below rolled results finish_day minute_of row_of rows_below refused_with accepted planned room_for outcome is_milestone on_start bounds_start status_of min_z max_z clamp_z percent_of whole_days
runs = refl

fine : (checked example).number ≡ 0
unfolding workday example_week task tasks example reads least next_start greatest previous_finish next_finish working_at previous_start start_by forward advance backward retreat shift spanned work_from between day_work worked_before count closing in_years held worked rank select next_in works bounded place_start start_for_finish is_moment place_finish finish_for_start finish_for_start_by day_start constraint_time actual known index_from index_of parent_of parent_among summary ignored tie_calendar tie_too_long tie_of kept_below ignored_below ends_below is_open open_below working_calendar lag_calendar lag_minutes lag_before lag_too_long or_else first_of weekly_hours judge_calendar judge_activity judge_parent judge_summary judge_link judge_order before_ordering checked put joined meet release drain into ready drained kahn first_waiting waiting_before member up_to go_back again named_loop keyed outgoing incoming targets sources targets_from sources_from meet_all waiting_in above climb steps_back loop_steps upward to_parent parent_links first_on_loop parent_loop steps_out depth recorded full through left_of left_below forward_bound raised constrained forward_held minutes_from placed forward_forward greatest_below all_summaries finish end over_lag link_finish lowered limited held_late lifted placed_late backward_backward gap slack_by holds_late held_start held_move freed free_float last_ones drives marked on_path forward_pass backward_pass free_pass path_pass run total_of shown shown_below summaries_at deepest_first children_below rolled results finish_day minute_of row_of rows_below refused_with accepted planned room_for outcome is_milestone on_start bounds_start status_of min_z max_z clamp_z percent_of whole_days
fine = refl

fits : Fit example
unfolding example tasks task
fits zero l z = record { first = tt; second = tt; expected = tt }
fits (suc i) l z = record { first = tt; second = tt; expected = tt }

other : Task ≡ FinishMilestone → ⊥
other e = let z : ◌≡◌ {A = ℕ} 0 1 = cc in omega arith

momentary : Momentary example
unfolding example tasks task
momentary zero l e = absurd (other e)
momentary (suc i) l e = absurd (other e)

pub obeys : Obeys example (λ i. signed_minute (ran.early.es i))
obeys = run_obeys example fine fits ran momentary runs

-- starts at 28401600 and 28404480, or one of them a minute earlier
unfoldable pub starts : ℤ → ℤ → ℕ → ℤ
starts a b zero = a
starts a b (suc i) = b

pub first_earlier : Obeys example (starts (pos 28401599) (pos 28404480)) → ⊥
unfolding starts ran workday example_week task tasks example reads least next_start greatest previous_finish next_finish working_at previous_start start_by forward advance backward retreat shift spanned work_from between day_work worked_before count closing in_years held worked rank select next_in works bounded place_start start_for_finish is_moment place_finish finish_for_start finish_for_start_by day_start constraint_time actual known index_from index_of parent_of parent_among summary ignored tie_calendar tie_too_long tie_of kept_below ignored_below ends_below is_open open_below working_calendar lag_calendar lag_minutes lag_before lag_too_long or_else first_of weekly_hours judge_calendar judge_activity judge_parent judge_summary judge_link judge_order before_ordering checked put joined meet release drain into ready drained kahn first_waiting waiting_before member up_to go_back again named_loop keyed outgoing incoming targets sources targets_from sources_from meet_all waiting_in above climb steps_back loop_steps upward to_parent parent_links first_on_loop parent_loop steps_out depth recorded full through left_of left_below forward_bound raised constrained forward_held minutes_from placed forward_forward greatest_below all_summaries finish end over_lag link_finish lowered limited held_late lifted placed_late backward_backward gap slack_by holds_late held_start held_move freed free_float last_ones drives marked on_path forward_pass backward_pass free_pass path_pass run total_of shown shown_below summaries_at deepest_first children_below rolled results finish_day minute_of row_of rows_below refused_with accepted planned room_for outcome is_milestone on_start bounds_start status_of min_z max_z clamp_z percent_of whole_days
first_earlier = earlier_disobeys example fine fits ran momentary runs (starts (pos 28401599) (pos 28404480)) 0 (omega arith) refl refl

pub second_earlier : Obeys example (starts (pos 28401600) (pos 28404479)) → ⊥
unfolding starts ran workday example_week task tasks example reads least next_start greatest previous_finish next_finish working_at previous_start start_by forward advance backward retreat shift spanned work_from between day_work worked_before count closing in_years held worked rank select next_in works bounded place_start start_for_finish is_moment place_finish finish_for_start finish_for_start_by day_start constraint_time actual known index_from index_of parent_of parent_among summary ignored tie_calendar tie_too_long tie_of kept_below ignored_below ends_below is_open open_below working_calendar lag_calendar lag_minutes lag_before lag_too_long or_else first_of weekly_hours judge_calendar judge_activity judge_parent judge_summary judge_link judge_order before_ordering checked put joined meet release drain into ready drained kahn first_waiting waiting_before member up_to go_back again named_loop keyed outgoing incoming targets sources targets_from sources_from meet_all waiting_in above climb steps_back loop_steps upward to_parent parent_links first_on_loop parent_loop steps_out depth recorded full through left_of left_below forward_bound raised constrained forward_held minutes_from placed forward_forward greatest_below all_summaries finish end over_lag link_finish lowered limited held_late lifted placed_late backward_backward gap slack_by holds_late held_start held_move freed free_float last_ones drives marked on_path forward_pass backward_pass free_pass path_pass run total_of shown shown_below summaries_at deepest_first children_below rolled results finish_day minute_of row_of rows_below refused_with accepted planned room_for outcome is_milestone on_start bounds_start status_of min_z max_z clamp_z percent_of whole_days
second_earlier = earlier_disobeys example fine fits ran momentary runs (starts (pos 28401600) (pos 28404479)) 1 (omega arith) refl refl
