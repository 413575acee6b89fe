-- `bounds::counted_from` meets its contract, by what the memory holds of the activity.
use native.Mathlib.Omega.{arith}
use Rattle.memory.specs.Seen.{state}
use Rattle.bounds.specs.LinkLaws.{start_counted}
use Rattle.bounds.proofs.counted_from.Goals as goal

pub returns : goal.returns
returns g c = (
  λ p a N. start_counted p (state (g.R.Reads.tables c.args.tables.now)) N c.args.i (omega (arith, a, c.requires)) _ _ _ c.recorded_at-recorded.ensures c.early_at-early.ensures.0 c.begun_at.ensures,
  c.early_at-early.ensures.1,
)
