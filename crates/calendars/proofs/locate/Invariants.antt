-- `calendars::locate` meets its contract: the calendars before k stand in the table, the round-the-clock one in the other rows, and calendar k stands at `at`.
use mathlib.Core.Path.{◌≡◌}
use Prim.Native.Nat.{◌≤◌}
use lib.ListN.{length}
use Rattle.sheet.specs.Places.{calendar_at}
use Rattle.calendars.specs.Calendars.{Located}
use Rattle.calendars.specs.TableLaws.{Measured, Clocks}
use Rattle.calendars.proofs.locate.Given as goal

abbrev pub invariant-loop-k : goal.invariant-loop-k
invariant-loop-k l =
    (l.k ≤ l.sheet.contents.calendars) × (l.at ≡ calendar_at l.sheet.bytes.now l.k) × (length l.calendars ≡ 16) × Located l.sheet.bytes.now l.sheet.contents l.k l.calendars × Measured l.sheet.bytes.now l.k l.calendars
    × Clocks l.k l.calendars
