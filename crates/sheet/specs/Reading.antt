-- What a byte string is as a sheet: its records, read one by one, or the refusal of the first that breaks 01's section The sheet.
use Rattle.std.specs.Prelude.{true, false, ◌&&◌, not, Result, Ok, Err, List, ℕ, zero, suc, ◌+◌, ◌*◌, eqb, leb, length}
use Rattle.number.specs.Bytes.{byte_at}
use Rattle.project.specs.Fields.{header_kind, calendar_kind, header_size, calendar_size, week_size, exception_size, activity_size, link_size, header_ok}
use Rattle.judges.specs.declared.SheetError.{SheetError}
use Rattle.judges.specs.declared.SheetError.TheVariants.{Malformed, OutOfRange}
use Rattle.judges.specs.Judging.{judge_calendar}
use Rattle.sheet.specs.declared.Contents.{Contents}
use Rattle.sheet.specs.declared.CalendarsEnd.{CalendarsEnd}
use Rattle.sheet.specs.declared.runs.RecordKind.{RecordKind}
use Rattle.sheet.specs.declared.runs.RecordKind.TheVariants.{Week, Exception, Activity, Link}
use Rattle.sheet.specs.Kinds.{byte_of, size_of, judge_of}

-- ---- runs of records of one kind
module _ (s : List ℕ) (kind : RecordKind) (at : ℕ) where
  -- the records from the i-th on of a run that begins at `at`, at most f of them: how many there are in all; one that is cut is 2
  unfoldable pub run : ℕ → ℕ → Result ℕ SheetError
  run zero i = Err Malformed
  run (suc f) i = elim (eqb (byte_at s (at + size_of kind * i)) (byte_of kind)) [
    | false ↦ Ok i
    | true ↦
        elim (leb (at + size_of kind * suc i) (length s)) [
          | false ↦ Err Malformed
          | true ↦ elim (judge_of kind s at i) [ Err e ↦ Err e | Ok u ↦ run f (suc i) ]
        ]
  ]

-- a record takes a byte at least, so no run is longer than the sheet
unfoldable pub run_of : List ℕ → RecordKind → ℕ → Result ℕ SheetError
run_of s kind at = run s kind at (suc (length s)) 0

-- ---- calendars: "W follows its C, then its E"
-- where the records of the calendar whose C stands at `at` end, or the refusal of one of its W or E records
unfoldable pub calendar_end : List ℕ → ℕ → Result ℕ SheetError
calendar_end s at = elim (run_of s Week (at + calendar_size)) [
  | Err x ↦ Err x
  | Ok w ↦
      elim (run_of s Exception (at + calendar_size + week_size * w)) [
        | Err x ↦ Err x
        | Ok e ↦ Ok (at + calendar_size + week_size * w + exception_size * e)
      ]
]

-- the calendars from the k-th on, which begins at `at`, at most f of them
unfoldable pub calendars_from : List ℕ → ℕ → ℕ → ℕ → Result CalendarsEnd SheetError
calendars_from s zero k at = Err Malformed
calendars_from s (suc f) k at = elim (eqb (byte_at s at) calendar_kind) [
  | false ↦ Ok (record { count = k; at = at })
  | true ↦
      elim (leb (at + calendar_size) (length s)) [
        | false ↦ Err Malformed
        | true ↦
            elim (judge_calendar s at k) [
              | Err x ↦ Err x
              | Ok u ↦ elim (calendar_end s at) [ Err x ↦ Err x | Ok n ↦ calendars_from s f (suc k) n ]
            ]
      ]
]

-- ---- the whole sheet: "P, calendars, all A, all L", "then a missing P or C"
abbrev pub after_links : List ℕ → ℕ → ℕ → ℕ → Result ℕ SheetError → Result Contents SheetError
after_links s k at a (Err x) = Err x
after_links s k at a (Ok l) =
    elim (eqb (at + activity_size * a + link_size * l) (length s) && not (eqb k 0)) [
      | false ↦ Err Malformed
      | true ↦ Ok (record { calendars = k; at = at; activities = a; links = l })
    ]

abbrev pub after_activities : List ℕ → ℕ → ℕ → Result ℕ SheetError → Result Contents SheetError
after_activities s k at (Err x) = Err x
after_activities s k at (Ok a) = after_links s k at a (run_of s Link (at + activity_size * a))

abbrev pub after_calendars : List ℕ → Result CalendarsEnd SheetError → Result Contents SheetError
after_calendars s (Err x) = Err x
after_calendars s (Ok c) = after_activities s c.count c.at (run_of s Activity c.at)

unfoldable pub read_sheet : List ℕ → Result Contents SheetError
read_sheet s = elim (eqb (byte_at s 0) header_kind && leb header_size (length s)) [
  | false ↦ Err Malformed
  | true ↦ elim (header_ok s 0) [ false ↦ Err OutOfRange | true ↦ after_calendars s (calendars_from s (suc (length s)) 0 header_size) ]
]
