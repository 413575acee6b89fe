-- The kinds of record that stand in runs: the byte, the length and the judge of each. Records with another byte have a link's length and judge.
use Rattle.std.specs.Prelude.{true, false, List, ℕ, eqb}
use Rattle.project.specs.Fields.{week_kind, exception_kind, activity_kind, link_kind, week_size, exception_size, activity_size, link_size}
use Rattle.judges.specs.Judging.{Verdict, judge_week, judge_exception, judge_activity, judge_link}
use Rattle.sheet.specs.declared.runs.RecordKind.{RecordKind}
use Rattle.sheet.specs.declared.runs.RecordKind.TheVariants.{Week, Exception, Activity, Link, Other}

abbrev pub byte_of : RecordKind → ℕ
byte_of Week = week_kind
byte_of Exception = exception_kind
byte_of Activity = activity_kind
byte_of Link = link_kind
byte_of (Other b) = b

abbrev pub size_of : RecordKind → ℕ
size_of Week = week_size
size_of Exception = exception_size
size_of Activity = activity_size
size_of Link = link_size
size_of (Other b) = link_size

-- record i of a run that begins at `at`
abbrev pub judge_of : RecordKind → List ℕ → ℕ → ℕ → Verdict
judge_of Week s at i = judge_week s at i
judge_of Exception s at i = judge_exception s at i
judge_of Activity s at i = judge_activity s at i
judge_of Link s at i = judge_link s at i
judge_of (Other b) s at i = judge_link s at i

-- the kind whose records begin with a byte
unfoldable pub kind_of : ℕ → RecordKind
kind_of b = elim (eqb b week_kind) [
  | true ↦ Week
  | false ↦ elim (eqb b exception_kind) [ true ↦ Exception | false ↦ elim (eqb b activity_kind) [ true ↦ Activity | false ↦ elim (eqb b link_kind) [ true ↦ Link | false ↦ Other b ] ] ]
]
