-- `calendar::Exceptions::hours_from` meets its contract: the records of a day are those from its first to the first of a later day.
use Rattle.std.proofs.Common.{arith}
use Rattle.calendar.specs.DayLaws.{from_to, in_hand, next_from}
use Rattle.calendar.proofs.exceptions.Exceptions.hours_from.Goals as goal

pub returns : goal.returns
returns c =
    let lo = c.requires in
    let hi = c.first_after-to.ensures in
    let b = c.between.ensures in
    (in_hand _ _ _ _ _ _ lo hi _ b.0 b.1 b.2, rw b.2 (next_from _ _ _ _ _ _ lo hi), omega (arith, b.2, from_to _ _ _ _ _ _ lo hi, hi.within))
