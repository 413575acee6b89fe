-- The outcome of the scheduling call: its answer, and every lent slice afterwards.
use Rattle.std.specs.Prelude.{Bool, true, false, ◌&&◌, Result, Ok, Err, List, [], ◌++◌, ℕ, ◌+◌, ◌*◌, max, eqb, leb, ℤ, pos, length, drop, replicate}
use Rattle.sheet.specs.declared.Contents.{Contents}
use Rattle.judges.specs.declared.SheetError.{SheetError}
use Rattle.judges.specs.Judging.{sheet_number}
use Rattle.sheet.specs.Reading.{read_sheet}
use Rattle.order.specs.Plan.{Plan, plan_of}
use Rattle.order.specs.Ties.{ignored_links, open_ends}
use Rattle.order.specs.Checks.{checked}
use Rattle.checks.specs.Names.{then_zeros}
use Rattle.worktime.specs.Number.{clock_number}
use Rattle.passes.specs.Dates.{Pass, leaves, refused}
use Rattle.passes.specs.Run.{Ran, run}
use Rattle.results.specs.declared.Shown.{Shown}
use Rattle.results.specs.Results.{results, finish_day}
use Rattle.results.specs.Rows.{signed_day_of, rows_below}
use Rattle.sched.specs.Answers.{Answer, Accepted}

-- what is lent: results, names and work memory
pub record Lent : Type 0 where
  pub results : List ℤ
  pub names : List ℕ
  pub work : List ℤ

pub record Ended : Type 0 where
  pub answer : Answer
  pub lent : Lent

-- ---- what a call leaves
-- "The others keep results and zero work memory and names, but 12 and 15 first put the loop's ids in names"
unfoldable pub refused_with : Lent → ℕ → ℕ → List ℕ → Ended
refused_with m number id loop = record {
  answer = Answer.Refused number id;
  lent = record { results = m.results; names = then_zeros loop m.names; work = replicate (length m.work) (pos 0) };
}

-- "Rows 1 to 4 write nothing"
abbrev pub untouched : Lent → ℕ → Ended
untouched m number = record { answer = Answer.Refused number 0; lent = m }

-- "The first 15 × A results are written, the rest kept. Names holds the ignored links' positions [..], then zeros. Work memory is all zeros."
unfoldable pub accepted : Lent → Plan → Ran → (ℕ → Shown) → Ended
accepted m p r f = record {
  answer =
      Accepted (signed_day_of (finish_day p r f p.activities)) p.activities (length (ignored_links p)) (open_ends p);
  lent = record {
    results = rows_below p r f p.activities ++ drop (15 * p.activities) m.results;
    names = then_zeros (ignored_links p) m.names;
    work = replicate (length m.work) (pos 0);
  };
}

-- "then 8 in the passes"
abbrev pub shown_with : Lent → Plan → Ran → Pass (ℕ → Shown) → Ended
shown_with m p r (leaves f) = accepted m p r f
shown_with m p r (refused k) = refused_with m (clock_number k) 0 []

abbrev pub ran_with : Lent → Plan → Pass Ran → Ended
ran_with m p (leaves r) = shown_with m p r (results p r)
ran_with m p (refused k) = refused_with m (clock_number k) 0 []

unfoldable pub planned : Lent → Plan → Ended
planned m p = elim (eqb (checked p).number 0) [
  | true ↦ ran_with m p (run p)
  | false ↦ refused_with m (checked p).number (checked p).id (checked p).loop
]

-- 1, "a lent slice is too short": results 15 × A, names the larger of A + 1 and L, work 64 × A + 16 × L
unfoldable pub room_for : Lent → Contents → Bool
room_for m c =
    leb (15 * c.activities) (length m.results) && leb (max (c.activities + 1) c.links) (length m.names)
    && leb (64 * c.activities + 16 * c.links) (length m.work)

abbrev pub read_with : List ℕ → Lent → Result Contents SheetError → Ended
read_with s m (Err e) = untouched m (sheet_number e)
read_with s m (Ok c) = elim (room_for m c) [ true ↦ planned m (plan_of s c) | false ↦ untouched m 1 ]

-- the sheet's bytes and what is lent, to the answer and what is lent afterwards
unfoldable pub outcome : List ℕ → Lent → Ended
outcome s m = read_with s m (read_sheet s)
