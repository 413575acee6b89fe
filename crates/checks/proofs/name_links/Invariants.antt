-- `checks::name_links` meets its contract: the first k names are written.
use Prim.Native.Nat.{◌<◌}
use lib.ListN.{length}
use Rattle.network.specs.Kahn.{named_loop}
use Rattle.order.specs.Plan.{plan_in}
use Rattle.order.specs.Ids.{id_of}
use Rattle.order.specs.Ties.{kept_links}
use Rattle.order.specs.Checks.{named}
use Rattle.checks.specs.NameLaws.{Naming}
use Rattle.checks.proofs.name_links.Given as goal

abbrev pub invariant-loop-k : goal.invariant-loop-k
invariant-loop-k l =
    (l.m < length l.initial.names) × Naming (named (id_of (plan_in l.sheet)) (named_loop (kept_links (plan_in l.sheet)) l.sheet.contents.activities)) (length l.initial.names) l.names l.k
