-- `tie_list::count_incoming` meets its contract: after k turns the first k links are counted.
use Rattle.std.proofs.Common.{length, ◌≡◌}
use Rattle.tie_list.specs.Tied.{Counted}
use Rattle.tie_list.proofs.count_incoming.Given as goal

abbrev pub invariant-loop-link : goal.invariant-loop-link
invariant-loop-link l = (length l.counts ≡ length l.fn.counts) × Counted l.links l.link-index l.counts
