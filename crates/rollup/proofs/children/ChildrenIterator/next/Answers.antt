-- The next child is the first that is left, and the others are left after it.
use Rattle.std.proofs.Common.{rules}
use Rattle.rollup.specs.ChildrenLaws.{children_none, children_more, children_fewer}
use Rattle.rollup.proofs.children.ChildrenIterator.next.Goals as goal

pub returns-then-self-clause-steps : goal.returns-then-self-clause-steps
returns-then-self-clause-steps c = search (rules, children_none c.self.invariant)

pub returns-clause-steps : goal.returns-clause-steps
returns-clause-steps c = search (rules, children_more c.self.invariant c.if-self.false c.act.ensures.0)

pub returns-clause-goes : goal.returns-clause-goes
returns-clause-goes c = search (rules, children_fewer c.self.invariant c.if-self.false c.act.ensures.0)
