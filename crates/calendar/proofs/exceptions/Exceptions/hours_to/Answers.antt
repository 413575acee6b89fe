-- `calendar::Exceptions::hours_to` meets its contract: the records of a day are those from its first to the first of a later day.
use Rattle.std.proofs.Common.{arith}
use Rattle.calendar.specs.DayLaws.{from_to, in_hand, day_from}
use Rattle.calendar.proofs.exceptions.Exceptions.hours_to.Goals as goal

pub returns : goal.returns
returns c =
    let lo = c.first_back-from.ensures in
    let hi = c.requires in
    let b = c.between.ensures in
    (in_hand _ _ _ _ _ _ lo hi _ b.0 b.1 b.2, omega (arith, b.2, from_to _ _ _ _ _ _ lo hi), rw b.2 (day_from _ _ _ _ _ _ lo hi))
