-- `number::sign::clamp` meets its contract: each way out cites its law.
use Rattle.std.proofs.Common.{◌≡◌, true, false, sym, ◌∙◌}
use Rattle.std.specs.Int.Signed.{lt_z}
use mir.Facts.{to_z-of_z}
use Rattle.number.specs.SignLaws.{clamp_low, clamp_down}
use Rattle.number.proofs.sign.clamp.Goals as goal

pub returns-then-z-lo : goal.returns-then-z-lo
returns-then-z-lo c =
    let x = c.args in
    let e : lt_z x.z x.lo ≡ true = rw (to_z-of_z c.ranges.z, to_z-of_z c.ranges.lo) at c.if-z-lo.true in
    rw (to_z-of_z c.ranges.lo) (sym (clamp_low x.z x.lo x.hi e))

pub returns : goal.returns
returns c =
    let x = c.args in
    let e : lt_z x.z x.lo ≡ false = rw (to_z-of_z c.ranges.z, to_z-of_z c.ranges.lo) at c.if-z-lo.false in
    let m = rw (to_z-of_z c.ranges.z, to_z-of_z c.ranges.hi) at c.min.ensures in
    rw (to_z-of_z (record { sfits = c.min.type_inv })) (m ∙ sym (clamp_down x.z x.lo x.hi e))
