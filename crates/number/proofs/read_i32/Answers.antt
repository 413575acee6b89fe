-- `number::read_i32` meets its contract.
use Rattle.std.proofs.Common.{ap, ◌∙◌, arith, to_z-of_z}
use Rattle.std.specs.Int.{cast_signed, w32}
use Rattle.number.specs.Bytes.{i32_at, u32_at}
use Rattle.number.specs.BytesLaws.{signed32_is}
use Rattle.number.proofs.read_i32.Goals as goal

pub returns : goal.returns
unfolding i32_at u32_at
returns c =
    rw (to_z-of_z (record { sfits = c.from_le_bytes.type_inv })) (c.from_le_bytes.ensures ∙ ap (cast_signed w32) (omega arith) ∙ signed32_is _)
