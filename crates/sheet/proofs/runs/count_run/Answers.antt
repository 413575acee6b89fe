-- `sheet::runs::count_run` meets its contract: the records taken are those of the run.
use Rattle.std.proofs.Common.{rules, arith, ◌∙◌, ap}
use Rattle.std.specs.Slice.Iter.{chunks_exact_size, chunks_exact_rest}
use Rattle.sheet.proofs.Taken.{tail, taken_pass, taken_end}
use Rattle.sheet.specs.RunSteps.{counted_is}
use Rattle.sheet.proofs.runs.count_run.Goals as goal

pub returns : goal.returns
returns c =
    let x = c.args in
    let r = c.count.ensures.runs in
    let t = c.take_while.ensures.runs r.0 r.0.seen r.1 in
    let q = t.0 in
    let size = ap chunks_exact_size t.1 ∙ c.chunks_exact.ensures.size ∙ c.size.ensures.0 in
    let rest = ap chunks_exact_rest t.1 ∙ c.chunks_exact.ensures.rest in
    let h = c.chunks_exact.ensures.runs q q.seen (omega (arith, size, c.size.ensures.0)) in
    let d = rw (size, rest, tail x.sheet.now x.at) at h in
    counted_is x.sheet.now x.kind x.at _ c.requires.0 c.requires.1 c.count.result
    (λ k l. taken_pass r.0 q _ _ x.sheet.now x.at _ _ c.requires.0 (omega (arith, c.size.ensures)) t.2 d (λ a b f k. search rules) (λ a b f k. search rules) k (omega (arith, r.3)))
    (λ l e. taken_end r.0 q _ _ x.sheet.now x.at _ _ c.requires.0 (omega (arith, c.size.ensures)) t.2 d (λ a b f k. search rules) (λ a b f k. search rules) r.2 (rw r.3 at l) (rw r.3 at e))
