-- 01's small examples of rows 5 to 15, on plans written by hand and by evaluation of the definitions.
use Rattle.std.specs.Prelude.{◌≡◌, refl, List, [], ◌∷◌, ℕ, ℤ, pos, negsuc, length, get_or, None}
use Rattle.number.specs.Sign.{clamp_z, percent_of}
use Rattle.calendar.specs.declared.Period.{Period}
use Rattle.calendar.specs.Hours.{works}
use Rattle.project.specs.declared.Activity.{Activity}
use Rattle.project.specs.declared.ActivityKind.{ActivityKind}
use Rattle.project.specs.declared.ActivityKind.TheVariants.{Task, StartMilestone}
use Rattle.project.specs.declared.Relationship.{Relationship}
use Rattle.project.specs.declared.RelationshipType.TheVariants.{FinishToStart}
use Rattle.project.specs.declared.LagKind.{LagKind}
use Rattle.project.specs.declared.LagKind.TheVariants.{WorkingDays, WorkingMinutes, ElapsedMinutes, Percent}
use Rattle.project.specs.declared.LagCalendar.TheVariants.{Predecessor}
use Rattle.project.specs.declared.FloatKind.TheVariants.{Finish}
use Rattle.project.specs.declared.ProgressMode.TheVariants.{RetainedLogic}
use Rattle.project.specs.declared.CriticalBy.TheVariants.{LongestPath}
use Rattle.project.specs.declared.Project.{Project}
use Rattle.project.specs.Status.{is_milestone}
use Rattle.network.specs.Kahn.{put, joined, meet, release, drain, into, ready, drained, kahn, first_waiting, waiting_before, member, up_to, go_back, again, named_loop}
use Rattle.network.specs.Parents.{above, climb, steps_back, loop_steps, upward}
use Rattle.network.specs.Outgoing.{incoming, outgoing}
use Rattle.cells.specs.Chain.{keyed}
use Rattle.order.specs.Plan.{Plan}
use Rattle.order.specs.Ids.{known, index_from, index_of, parent_of, parent_among, summary}
use Rattle.order.specs.Lags.{working_calendar, lag_calendar, lag_minutes, lag_before, lag_too_long}
use Rattle.order.specs.Ties.{ignored, tie_calendar, tie_too_long, ignored_below, ignored_links, ends_below, is_open, open_below, open_ends}
use Rattle.order.specs.Checks.{Verdict, refuse, fine, refuse_loop, or_else, first_of, judge_calendar, judge_activity, judge_parent, judge_summary, judge_link, judge_order, before_ordering, checked}
use Rattle.calendar.specs.Records.{weekly_hours}

abbrev project : Project
project = record {
  start = record { 0 = pos 0 };
  data_date = None;
  must_finish_by = None;
  lag_calendar = Predecessor;
  float_kind = Finish;
  progress_mode = RetainedLogic;
  critical_by = LongestPath;
}

-- an activity: id, kind, calendar, parent, minutes
abbrev activity : ℕ → ActivityKind → ℕ → ℕ → ℤ → Activity
activity id kind calendar parent minutes = record {
  id = id;
  kind = kind;
  calendar = calendar;
  parent = parent;
  minutes = minutes;
  actual_start = None;
  actual_finish = None;
  remaining = None;
  expected_finish = None;
  constraint = None;
  secondary_constraint = None;
  levelled = None;
}

-- a task of 480 minutes under a parent
abbrev under : ℕ → ℕ → Activity
under parent id = activity id Task 0 parent (pos 480)

abbrev task : ℕ → Activity
task = under 0

-- a task of so many minutes
abbrev lasting : ℤ → Activity
lasting minutes = activity 1 Task 0 0 minutes

abbrev lagged : ℕ → ℕ → LagKind → Relationship
lagged a b lag = record { predecessor = a; successor = b; kind = FinishToStart; lag = lag }

abbrev link : ℕ → ℕ → Relationship
link a b = lagged a b (WorkingMinutes (pos 0))

-- one calendar with the given week
abbrev plan_with : List (List Period) → List Activity → List Relationship → Plan
plan_with week acts ls = record {
  project = project;
  calendars = 1;
  week = λ k. week;
  hours = λ k d. [];
  day_length = λ k. 480;
  activities = length acts;
  activity = λ i. get_or acts i (task 0);
  links = length ls;
  link = λ k. get_or ls k (link 0 0);
}

-- one that works on Mondays
abbrev plan : List Activity → List Relationship → Plan
plan = plan_with ((record { from = 480; to = 960 } ∷ []) ∷ [])

abbrev two : List Activity
two = task 1 ∷ task 2 ∷ []

pub rows : List Verdict
rows =
    -- 5: P, C alone
    checked (plan_with [] [] [])
    -- 6: ids 4, 4
    ∷ checked (plan (task 4 ∷ task 4 ∷ []) [])
    -- 7: task of −1
    ∷ checked (plan (lasting (negsuc 0) ∷ []) [])
    -- 8: task of 144,000,001; the longest has 48,000,000 minutes
    ∷ checked (plan (lasting (pos 144000001) ∷ []) [])
    ∷ checked (plan (lasting (pos 48000001) ∷ []) [])
    ∷ checked (plan (lasting (pos 48000000) ∷ []) [])
    -- 9: calendar 3 of 1, and the round-the-clock calendar's own number
    ∷ checked (plan (activity 1 Task 3 0 (pos 480) ∷ []) [])
    ∷ checked (plan (activity 1 Task 1 0 (pos 480) ∷ []) [])
    -- 10: parent 9 alone
    ∷ checked (plan (under 9 1 ∷ []) [])
    -- 11: 2 under milestone 1
    ∷ checked (plan (activity 1 StartMilestone 0 0 (pos 0) ∷ under 1 2 ∷ []) [])
    -- 12: 1 under 1; and 3 under 2, 2 under 4, 4 under 2, where 3 lies on no loop
    ∷ checked (plan (under 1 1 ∷ []) [])
    ∷ checked (plan (under 2 3 ∷ under 4 2 ∷ under 2 4 ∷ []) [])
    -- 13: link 1 to 9; 8 to 9, the predecessor first; 0 to 1; 9 to 9 with 9 unknown
    ∷ checked (plan two (link 1 9 ∷ []))
    ∷ checked (plan two (link 8 9 ∷ []))
    ∷ checked (plan two (link 0 1 ∷ []))
    ∷ checked (plan two (link 9 9 ∷ []))
    -- 14: link 1 to 1, also on a summary
    ∷ checked (plan two (link 1 1 ∷ []))
    ∷ checked (plan (task 1 ∷ under 1 2 ∷ []) (link 1 1 ∷ []))
    -- 15: 1 to 2, 2 to 1; an ignored link closes no loop
    ∷ checked (plan two (link 1 2 ∷ link 2 1 ∷ []))
    ∷ checked (plan (task 1 ∷ under 1 2 ∷ []) (link 1 2 ∷ link 2 1 ∷ []))
    ∷ []

pub rows_are : rows
    ≡ refuse 5 0
    ∷ refuse 6 4
    ∷ refuse 7 1
    ∷ refuse 8 0
    ∷ refuse 8 0
    ∷ fine
    ∷ refuse 9 1
    ∷ refuse 9 1
    ∷ refuse 10 1
    ∷ refuse 11 1
    ∷ refuse_loop 12 (1 ∷ 1 ∷ [])
    ∷ refuse_loop 12 (2 ∷ 4 ∷ 2 ∷ [])
    ∷ refuse 13 9
    ∷ refuse 13 8
    ∷ refuse 13 0
    ∷ refuse 13 9
    ∷ refuse 14 1
    ∷ refuse 14 1
    ∷ refuse_loop 15 (2 ∷ 1 ∷ 2 ∷ [])
    ∷ fine
    ∷ []
unfolding rows known index_from index_of parent_of parent_among summary working_calendar lag_calendar lag_minutes lag_before lag_too_long ignored tie_calendar tie_too_long ends_below or_else first_of weekly_hours judge_calendar judge_activity judge_parent judge_summary judge_link judge_order before_ordering checked works is_milestone above climb steps_back loop_steps upward put joined meet release drain into ready drained kahn first_waiting waiting_before member up_to go_back again named_loop
rows_are = refl

-- a lag: 100,000 days or 144,000,000 minutes either way, also where links before it are fine; not on an ignored link; 8 on the first link
-- comes before 13 on the second
pub lags : List Verdict
lags =
    checked (plan two (lagged 1 2 (WorkingDays (pos 100000)) ∷ []))
    ∷ checked (plan two (lagged 1 2 (WorkingDays (negsuc 99999)) ∷ []))
    ∷ checked (plan two (lagged 1 2 (WorkingDays (pos 100001)) ∷ []))
    ∷ checked (plan two (lagged 1 2 (WorkingDays (negsuc 100000)) ∷ []))
    ∷ checked (plan two (lagged 1 2 (ElapsedMinutes (pos 144000000)) ∷ []))
    ∷ checked (plan two (lagged 1 2 (ElapsedMinutes (pos 144000001)) ∷ []))
    -- 48,000,000 minutes by 300 percent are as many as may be; by a hundredth more, and by what is clamped, too many; of 480 they are not
    ∷ checked (plan (lasting (pos 48000000) ∷ task 2 ∷ []) (lagged 1 2 (Percent (pos 30000)) ∷ []))
    ∷ checked (plan (lasting (pos 48000000) ∷ task 2 ∷ []) (lagged 1 2 (Percent (pos 30001)) ∷ []))
    ∷ checked (plan (lasting (pos 48000000) ∷ task 2 ∷ []) (lagged 1 2 (Percent (negsuc 2147483647)) ∷ []))
    ∷ checked (plan two (lagged 1 2 (Percent (negsuc 2147483647)) ∷ []))
    ∷ checked (plan (task 1 ∷ under 1 2 ∷ task 3 ∷ []) (lagged 1 3 (WorkingDays (pos 100001)) ∷ []))
    ∷ checked (plan two (lagged 1 2 (WorkingDays (pos 100001)) ∷ link 1 9 ∷ []))
    ∷ []

pub lags_are : lags
    ≡ fine ∷ fine ∷ refuse 8 0 ∷ refuse 8 0 ∷ fine ∷ refuse 8 0 ∷ fine ∷ refuse 8 0 ∷ refuse 8 0 ∷ fine ∷ fine ∷ refuse 8 0 ∷ []
unfolding lags known index_from index_of parent_of parent_among summary working_calendar lag_calendar lag_minutes lag_before lag_too_long clamp_z percent_of ignored tie_calendar tie_too_long ends_below or_else first_of weekly_hours judge_calendar judge_activity judge_parent judge_summary judge_link judge_order before_ordering checked works is_milestone above climb steps_back loop_steps upward put joined meet release drain into ready drained kahn first_waiting waiting_before member up_to go_back again named_loop
lags_are = refl

-- the order of the checks: 9 of the first activity before 6 of the second, 6 before 7 of one, 10 for all before 11 of the first, 11 of the
-- first before 12 of the second, 12 before 13
pub turns : List Verdict
turns =
    checked (plan (activity 1 Task 1 0 (pos 480) ∷ task 1 ∷ []) [])
    ∷ checked (plan (task 1 ∷ lasting (negsuc 0) ∷ []) [])
    ∷ checked (plan (activity 1 StartMilestone 0 0 (pos 0) ∷ under 1 2 ∷ under 9 3 ∷ []) [])
    ∷ checked (plan (activity 1 StartMilestone 0 0 (pos 0) ∷ under 2 2 ∷ under 1 3 ∷ []) [])
    ∷ checked (plan (under 1 1 ∷ []) (link 1 9 ∷ []))
    ∷ []

pub turns_are : turns ≡ refuse 9 1 ∷ refuse 6 1 ∷ refuse 10 3 ∷ refuse 11 1 ∷ refuse_loop 12 (1 ∷ 1 ∷ []) ∷ []
unfolding turns known index_from index_of parent_of parent_among summary or_else first_of weekly_hours judge_calendar judge_activity judge_parent judge_summary judge_link before_ordering checked works is_milestone above climb steps_back loop_steps upward
turns_are = refl

-- open ends: of 1 to 2 and 2 to 3 they are 1 and 3; where 1 is a summary with child 4, the link from it is ignored, and they are 2, 3 and 4
pub open_both_ends : open_ends (plan (task 1 ∷ task 2 ∷ task 3 ∷ []) (link 1 2 ∷ link 2 3 ∷ [])) ≡ 2
unfolding known index_from index_of parent_of parent_among summary ignored ends_below is_open open_below keyed incoming outgoing
open_both_ends = refl

abbrev parted : Plan
parted = plan (task 1 ∷ task 2 ∷ task 3 ∷ under 1 4 ∷ []) (link 2 3 ∷ link 1 2 ∷ [])

pub open_without_ignored : open_ends parted ≡ 3
unfolding known index_from index_of parent_of parent_among summary ignored ends_below is_open open_below keyed incoming outgoing
open_without_ignored = refl

pub ignored_position : ignored_links parted ≡ 1 ∷ []
unfolding known index_from index_of parent_of parent_among summary ignored ignored_below
ignored_position = refl
