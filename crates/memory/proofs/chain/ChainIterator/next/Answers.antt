-- The next link is the first that is left, and the others are left after it.
use Rattle.std.proofs.Common.{rules}
use Rattle.memory.specs.LeftLaws.{left_none, left_more, left_fewer}
use Rattle.memory.proofs.chain.ChainIterator.next.Goals as goal

pub returns-then-self-kept-clause-steps : goal.returns-then-self-kept-clause-steps
returns-then-self-kept-clause-steps g c = search (rules, left_none c.self.invariant)

pub returns-clause-steps : goal.returns-clause-steps
returns-clause-steps g c = search (rules, left_more c.self.invariant (rw c.kept.ensures.0 at c.if-self-kept.false) c.link.ensures.0)

pub returns-clause-goes : goal.returns-clause-goes
returns-clause-goes g c = search (rules, left_fewer c.self.invariant (rw c.kept.ensures.0 at c.if-self-kept.false) c.link.ensures.0)
