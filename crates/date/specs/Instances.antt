-- Four dates of the calendar, with the days that they are.
use Rattle.std.proofs.Common.{arith}
use Rattle.std.specs.Prelude.{pos, negsuc}
use Rattle.date.specs.Gregorian.{leap, lengths, sum, IsDate}
use Rattle.date.specs.YearLaws.{years_up_lem, years_down_lem, year_zero, epoch}
use Rattle.date.specs.CivilLaws.{is_date}

pub january_1970 : IsDate (pos 0) (pos 1970) 1 1
unfolding lengths sum
january_1970 = is_date (pos 0) (pos 1970) 1 1 (omega arith) (omega arith) (omega arith) (omega arith) (omega (arith, year_zero))

pub february_2000 : IsDate (pos 11016) (pos 2000) 2 29
unfolding leap lengths sum
february_2000 = is_date (pos 11016) (pos 2000) 2 29 (omega arith) (omega arith) (omega arith) (omega arith) (omega (arith, year_zero, epoch, years_up_lem 2000))

pub january_before_9999 : IsDate (negsuc 4371586) (negsuc 9998) 1 1
unfolding lengths sum
january_before_9999 = is_date (negsuc 4371586) (negsuc 9998) 1 1 (omega arith) (omega arith) (omega arith) (omega arith) (omega (arith, year_zero, epoch, years_down_lem 9999))

pub december_9999 : IsDate (pos 2932896) (pos 9999) 12 31
unfolding leap lengths sum
december_9999 = is_date (pos 2932896) (pos 9999) 12 31 (omega arith) (omega arith) (omega arith) (omega arith) (omega (arith, year_zero, epoch, years_up_lem 9999))
