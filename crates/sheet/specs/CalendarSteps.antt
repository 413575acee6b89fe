-- The calendars as the loop over them goes: what the loop keeps, and each of its ways.
use Rattle.std.specs.Prelude.{◌≡◌, Result, Ok, Err, List, ℕ, suc, ◌+◌, ◌≤◌, ◌<◌, length}
use Rattle.std.proofs.Common.{sym, ◌∙◌, arith}
use Rattle.number.specs.Bytes.{byte_at}
use Rattle.project.specs.Fields.{calendar_kind, header_size, calendar_size}
use Rattle.judges.specs.declared.SheetError.{SheetError}
use Rattle.judges.specs.declared.SheetError.TheVariants.{Malformed}
use Rattle.judges.specs.Judging.{judge_calendar}
use Rattle.sheet.specs.declared.CalendarsEnd.{CalendarsEnd}
use Rattle.sheet.specs.Reading.{calendar_end, calendars_from}
use Rattle.sheet.specs.JudgeLaws.{calendar_stands}
use Rattle.sheet.specs.CalendarLaws.{remaining, remaining_all, calendars_end, calendars_cut, calendars_refused, calendars_stop, calendars_more, end_known}

abbrev all : List ℕ → Result CalendarsEnd SheetError
all s = calendars_from s (suc (length s)) 0 header_size

-- the loop stands at calendar k, whose place is `at`
pub record CalendarHere (s : List ℕ) (k at : ℕ) : Type 0 where
  pub within : at ≤ length s
  pub few : k ≤ 15
  pub header : header_size ≤ length s
  pub whole : remaining s k at ≡ all s

pub calendar_start : (s : List ℕ) → header_size ≤ length s → CalendarHere s 0 header_size
calendar_start s l = record { within = l; few = omega arith; header = l; whole = remaining_all s header_size }

module _ (s : List ℕ) (k at : ℕ) (here : CalendarHere s k at) where
  short : k ≤ length s
  short = omega (arith, here.few, here.header)

  pub calendar_end_lem : (byte_at s at ≡ calendar_kind → ⊥) → Ok (record { count = k; at = at }) ≡ all s
  calendar_end_lem h = sym (calendars_end s k at short h) ∙ here.whole

  module _ (kind : byte_at s at ≡ calendar_kind) where
    pub calendar_cut : length s < at + calendar_size → Err Malformed ≡ all s
    calendar_cut l = sym (calendars_cut s k at short kind l) ∙ here.whole

    module _ (l : at + calendar_size ≤ length s) where
      pub calendar_refused : (x : SheetError) → judge_calendar s at k ≡ Err x → Err x ≡ all s
      calendar_refused x j = sym (calendars_refused s k at short kind l x j) ∙ here.whole

      module _ (u : Unit {0}) (judge : judge_calendar s at k ≡ Ok u) where
        pub calendar_stop : (x : SheetError) → calendar_end s at ≡ Err x → Err x ≡ all s
        calendar_stop x e = sym (calendars_stop s k at short kind l judge x e) ∙ here.whole

        pub calendar_few : k < 15
        calendar_few = (calendar_stands s at k judge).0

        pub calendar_more : (n : ℕ) → calendar_end s at ≡ Ok n → CalendarHere s (k + 1) n
        calendar_more n e =
            record {
              within = (end_known s at k kind l judge n e).2;
              few = omega (arith, calendar_few);
              header = here.header;
              whole = sym (calendars_more s k at short kind l judge n e) ∙ here.whole;
            }
