-- `links::link_one` meets its contract.
use mathlib.Core.Path.{refl}
use lib.ListN.{length-set}
use Rattle.std.proofs.Common.{inl}
use Rattle.memory.specs.SeenLaws.{same_refl, same_lent}
use Rattle.order.specs.Plan.{plan_in}
use Rattle.links.specs.StoreLaws.{kept_short}
use Rattle.links.proofs.link_one.Goals as goal

pub returns-in_default : goal.returns-in_default
returns-in_default c =
    let x = c.args in
    let A = rw c.in_default.is at c.in_ok-ends.ensures in
    ((A.0, inl (record { is = A.1; same = refl; named = refl; kept = refl; more = refl })), same_lent (same_refl x.tables.now), length-set x.names.now x.ignored x.k)

pub store_tie-requires : goal.store_tie-requires
store_tie-requires c =
    let x = c.args in
    let h = c.requires in
    let J = h.0 in
    let A = rw c.in-Some.is at c.in_ok-ends.ensures in
    (J.lent, h.1, J.activities, J.lengths_are, A.2, kept_short (plan_in x.sheet.now) x.k A.0 A.1, h.2)
