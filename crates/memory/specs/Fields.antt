-- The fields of the two tables: what each cell of an activity's row and of a kept link's row holds.
use Rattle.std.specs.Prelude.{ℕ}

-- ---- activities
-- the trees of ids: the activity's two children, by the next bit of an id; 0 for none, and else one more than the child
abbrev pub low_child : ℕ
low_child = 0

abbrev pub high_child : ℕ
high_child = 1

-- 0 for no parent, and else one more than the parent
abbrev pub parent : ℕ
parent = 2

-- 1 for a summary
abbrev pub is_summary : ℕ
is_summary = 3

-- the first kept link into the activity and the first out of it; the count of kept links for none
abbrev pub first_in : ℕ
first_in = 4

abbrev pub first_out : ℕ
first_out = 5

-- kept links into the activity that are not yet met
abbrev pub waiting : ℕ
waiting = 6

-- the activity at this row's place of the order
abbrev pub order_at : ℕ
order_at = 7

-- while a loop is named: one more than this activity's place on the way back, and the activity at this row's place of it
abbrev pub seen : ℕ
seen = 8

abbrev pub path_at : ℕ
path_at = 9

-- ---- the dates of the run, in minutes from the first day that an i32 can name
abbrev pub late_start : ℕ
late_start = 10

abbrev pub late_finish : ℕ
late_finish = 11

abbrev pub early_start : ℕ
early_start = 12

abbrev pub early_finish : ℕ
early_finish = 13

-- the minutes of work left
abbrev pub work_left : ℕ
work_left = 14

-- the free float in minutes
abbrev pub free_float : ℕ
free_float = 15

-- 1 on the longest path
abbrev pub longest_path : ℕ
longest_path = 16

-- what is recorded of the work: 0 for unstarted, 1 for begun, 2 for completed, and its start and finish
abbrev pub recorded_as : ℕ
recorded_as = 17

abbrev pub recorded_start : ℕ
recorded_start = 18

abbrev pub recorded_finish : ℕ
recorded_finish = 19

-- ---- what is shown: days counted from the first that an i32 can name, the total float (signed), flags, and for the roll-up the greatest early
-- and late finish
abbrev pub shown_start : ℕ
shown_start = 20

abbrev pub shown_finish : ℕ
shown_finish = 21

abbrev pub shown_late_start : ℕ
shown_late_start = 22

abbrev pub shown_late_finish : ℕ
shown_late_finish = 23

abbrev pub total_float : ℕ
total_float = 24

abbrev pub shown_free : ℕ
shown_free = 25

abbrev pub is_critical : ℕ
is_critical = 26

abbrev pub is_longest : ℕ
is_longest = 27

abbrev pub greatest_finish : ℕ
greatest_finish = 28

abbrev pub greatest_late : ℕ
greatest_late = 29

-- ---- the roll-up: a summary's depth and 0 for others, the first summary of the depth with this row's number and the next of the same depth, the
-- first child and the next with the same parent; the count of activities ends a chain
abbrev pub depth_of : ℕ
depth_of = 30

abbrev pub first_deep : ℕ
first_deep = 31

abbrev pub next_deep : ℕ
next_deep = 32

abbrev pub first_child : ℕ
first_child = 33

abbrev pub next_child : ℕ
next_child = 34

-- the root of the tree of ids with this row's number; 0 for none, and else one more than the root
abbrev pub root : ℕ
root = 35

-- ---- kept links
abbrev pub from_field : ℕ
from_field = 0

abbrev pub to_field : ℕ
to_field = 1

abbrev pub kind_field : ℕ
kind_field = 2

-- signed
abbrev pub lag_field : ℕ
lag_field = 3

abbrev pub lag_calendar_field : ℕ
lag_calendar_field = 4

abbrev pub next_into : ℕ
next_into = 5

abbrev pub next_out : ℕ
next_out = 6
