-- 01's marked instances (11) and (12), by evaluation of the definitions.
use Rattle.std.specs.Prelude.{◌≡◌, refl, pos, negsuc}
use Rattle.number.specs.Sign.{clamp_z, percent_of, whole_days}

-- "percent −5,000 of 961: −480"
pub eleven : percent_of (pos 961) (negsuc 4999) ≡ negsuc 479
unfolding percent_of clamp_z
eleven = refl

-- "float −470: 0 days" at 480 minutes a day
pub twelve : whole_days (negsuc 469) 480 ≡ pos 0
unfolding whole_days
twelve = refl
