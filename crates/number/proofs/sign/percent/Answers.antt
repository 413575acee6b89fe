-- `number::sign::percent` meets its contract: the product stays small, and so does the quotient.
use mathlib.Core.Path.{◌≡◌, refl, ◌∙◌}
use native.Mathlib.Omega.{arith}
use Prim.Native.Nat.{◌≤◌}
use lib.IntN.{ℤ, pos, negsuc, nat_abs, ◌*ℤ◌}
use lib.Signed.{quot_z}
use mir.Facts.{to_z-of_z}
use mir.Syntax.{w64}
use mir.Val.{SFits}
use Rattle.number.specs.Sign.{clamp_z, percent_of}
use Rattle.number.specs.QuotLaws.{fits_abs, quot_fits}
use Rattle.number.specs.SignLaws.{clamp_is, percent_product, percent_size}
use Rattle.number.proofs.sign.percent.Goals as goal

abbrev product : goal.After-clamp-held → ℤ
product c = c.args.duration *ℤ c.clamp-held.result

held : (c : goal.After-clamp-held) → c.clamp-held.result ≡ clamp_z c.args.share (negsuc 999999) (pos 1000000)
held c = (rw (to_z-of_z c.ranges.share) at c.clamp-held.ensures.value) ∙ clamp_is c.args.share (negsuc 999999) (pos 1000000) (omega arith)

small : (c : goal.After-clamp-held) → nat_abs (product c) ≤ 48000000000000
small c = rw (held c) (percent_product c.args.duration c.args.share c.requires)

product-fits : (c : goal.After-clamp-held) → SFits w64 (product c)
product-fits c = fits_abs w64 (product c) (omega (arith, small c))

fits : (c : goal.After-clamp-held) → SFits w64 (quot_z (product c) (pos 10000))
fits c = quot_fits w64 (product c) 10000 (product-fits c)

result_fits : (c : goal.After-clamp-held) → SFits w64 c.clamp-held.result
result_fits c = record { sfits = c.clamp-held.type_inv }

is-percent : (c : goal.After-clamp-held) → quot_z (product c) (pos 10000) ≡ percent_of c.args.duration c.args.share
unfolding percent_of
is-percent c = rw (held c)

pub overflow_mul-result : goal.overflow_mul-result
overflow_mul-result c = rw (to_z-of_z c.ranges.duration, to_z-of_z (result_fits c)) (product-fits c)

pub returns : goal.returns
returns c =
    rw (to_z-of_z c.ranges.duration, to_z-of_z (result_fits c), to_z-of_z (product-fits c), to_z-of_z (fits c), is-percent c)
    (refl, percent_size c.args.duration c.args.share c.requires)
