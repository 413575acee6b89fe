-- `cells::fill` meets its contract: std's fill of the part is the run of stores.
use Rattle.std.proofs.Common.{◌≡◌, ◌+◌, ◌-◌, length, take, drop, replicate, pos, sym, ◌∙◌, arith}
use Rattle.std.proofs.lemmas.Slice.{put_mid-paste}
use Rattle.std.proofs.lemmas.List.{length-replicate}
use Rattle.std.proofs.lemmas.List.Edits.{length-between}
use mir.Facts.{to_z_pos}
use mir.Syntax.{w64}
use Rattle.cells.specs.CellLaws.{filled_paste}
use Rattle.cells.proofs.fill.Goals as goal

pub returns : goal.returns
returns c =
    let x = c.args in
    let size : length (take (x.base + x.n - x.base) (drop x.base x.work.now)) ≡ x.n = length-between x.work.now x.base (x.base + x.n) c.requires.0 ∙ omega arith in
    let part : c.fill.new.self ≡ replicate x.n (pos x.v) = cc (c.fill.ensures.after (λ y e. e), to_z_pos w64 c.requires.1, size) in
    put_mid-paste x.base _ x.work.now _ _ x.n part (omega arith) (sym (length-replicate x.n (pos x.v))) ∙ sym (filled_paste x.work.now x.base x.v x.n c.requires.0)
