-- 01's marked instances (1) to (9), by evaluation of the definitions: the week that begins on Monday, day 19723, worked from 480 to 960 on Monday to Friday.
use Rattle.std.specs.Prelude.{◌≡◌, refl, Bool, List, [], ◌∷◌, ℕ, ◌+◌, ◌*◌, replicate, negsuc, Ok}
use Rattle.calendar.specs.declared.Period.{Period}
use Rattle.calendar.specs.Hours.{none, held, worked}
use Rattle.calendar.specs.Records.{hours_on, exceptions_on}
use Rattle.date.specs.Years.{in_years}
use Rattle.worktime.specs.Worked.{closing}
use Rattle.worktime.specs.Walks.{reads, next_start, least, previous_finish, greatest, next_finish, start_by, advance, forward, retreat, backward, spanned, work_from, between}

unfoldable pub day : List Period
day = record { from = 480; to = 960 } ∷ replicate 7 none

unfoldable pub week : List (List Period)
week = day ∷ day ∷ day ∷ day ∷ day ∷ replicate 8 none ∷ replicate 8 none ∷ []

unfoldable pub w : ℕ → Bool
w = worked (hours_on week [] 0 0)

-- minute m of weekday k of that week
unfoldable pub at : ℕ → ℕ → ℕ
at k m = (2147503371 + k) * 1440 + m

pub one : next_start w (at 4 960) ≡ Ok (at 7 480)
unfolding at w week day hours_on exceptions_on held worked in_years reads next_start least
one = refl

pub two : next_start w (at 0 959) ≡ Ok (at 0 959)
unfolding at w week day hours_on exceptions_on held worked in_years reads next_start least
two = refl

pub three : previous_finish w (at 7 480) ≡ Ok (at 4 960)
unfolding at w week day hours_on exceptions_on held worked in_years reads closing previous_finish greatest
three = refl

pub four : advance w (at 4 960) 1 ≡ Ok (at 7 481)
unfolding at w week day hours_on exceptions_on held worked in_years reads advance forward
four = refl

pub five : advance w (at 5 0) 0 ≡ Ok (at 5 0)
unfolding advance
five = refl

pub six : retreat w (at 7 480) 1 ≡ Ok (at 4 959)
unfolding at w week day hours_on exceptions_on held worked in_years reads retreat backward
six = refl

pub seven : between w (at 1 480) (at 0 480) ≡ Ok (negsuc 479)
unfolding at w week day hours_on exceptions_on held worked in_years reads between work_from spanned
seven = refl

pub eight : start_by w (at 5 720) ≡ Ok (at 4 959)
unfolding at w week day hours_on exceptions_on held worked in_years reads closing start_by previous_finish greatest
eight = refl

pub nine : next_finish w (at 4 960) ≡ Ok (at 4 960)
unfolding at w week day hours_on exceptions_on held worked in_years reads closing next_finish
nine = refl
