-- `late::links::lower` meets its contract. The loop's invariant: `latest` is what the links leave that were met.
use mathlib.Core.Path.{sym, ◌∙◌}
use native.Mathlib.Omega.{arith}
use Rattle.bounds.specs.ReadyLaws.{out_chains}
use Rattle.cells.specs.ChainLaws.{along_kept}
use Rattle.number.specs.Exits.{handed_on}
use Rattle.late.specs.StandLaws.{lowering_start, lowering_next, lowering_stop, lowering_end}
use Rattle.late.proofs.links.lower.Goals as goal

pub links_out-k-items-requires : goal.links_out-k-items-requires
links_out-k-items-requires g c = (omega (arith, c.requires.0.activities, c.requires.1), out_chains c.requires.0)

pub loop-k-init : goal.loop-k-init
loop-k-init g c = rw (c.into_iter-k-iterator.ensures.into_iter_gives, c.links_out-k-items.ensures) (tt, tt, λ R. lowering_start R c.args.i c.args.last)

pub link_finish-requires : goal.link_finish-requires
link_finish-requires g c = (c.requires.0, along_kept _ _ _ _ _ _ (rw c.in-Some.ensures.steps at (c.loop-k.invariant.2 c.requires.0)))

pub returns-in_err-f : goal.returns-in_err-f
returns-in_err-f g c =
    rw (handed_on _ _ c.from_residual.ensures.1)
    (lowering_stop c.requires.0 c.args.i c.args.last (rw c.in-Some.ensures.steps at (c.loop-k.invariant.2 c.requires.0)) _ (sym (c.link_finish.ensures c.args.i c.args.last c.requires.2) ∙ c.in_err-f.was))

pub loop-k-preserved : goal.loop-k-preserved
loop-k-preserved g c =
    (tt, tt, λ R. lowering_next R c.args.i c.args.last (rw c.in-Some.ensures.steps at (c.loop-k.invariant.2 R)) _ _ (sym (c.link_finish.ensures c.args.i c.args.last c.requires.2) ∙ c.in_ok-f.was) c.min-latest.ensures)

pub returns : goal.returns
returns g c = lowering_end c.requires.0 c.args.i c.args.last (rw c.in-None.ensures.steps.0 at (c.loop-k.invariant.2 c.requires.0))
