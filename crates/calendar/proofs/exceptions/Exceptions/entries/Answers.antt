-- `calendar::Exceptions::entries` meets its contract: nine bytes of the run are a record.
use Rattle.std.proofs.Common.{◌≡◌, ap, ◌∙◌, arith, [], ◌+◌, ◌-◌, ◌*◌, ◌/◌, length, get_or, take, drop}
use Rattle.std.specs.Simd.{first_chunks}
use Rattle.std.proofs.lemmas.List.Edits.{length-between}
use Rattle.calendar.specs.Records.{exception_day}
use Rattle.calendar.proofs.Entries.{entry_day}
use Rattle.calendar.proofs.exceptions.Exceptions.entries.Goals as goal

pub returns : goal.returns
returns c =
    let e = c.args.self.now in
    let part = take (e.at + 9 * e.n - e.at) (drop e.at e.sheet.now) in
    let size : length part ≡ 9 * e.n = length-between e.sheet.now e.at (e.at + 9 * e.n) e.listed.0 ∙ omega arith in
    let count : length part / 9 ≡ e.n = omega (arith, size) in
    let front = c.as_chunks.ensures.front ∙ ap (λ k. first_chunks 9 k part) count in
    (c.as_chunks.ensures.front_len ∙ count, λ i l. ap (λ es. exception_day (get_or es i []) 0 0) front ∙ entry_day e.sheet.now e.at e.n _ i l (omega arith))
