-- `topology::order_activities` meets its contract.
use mathlib.Core.List.{[]}
use mathlib.Core.Path.{subst}
use Rattle.std.proofs.Common.{rules}
use Rattle.memory.specs.declared.Tables.{Tables}
use Rattle.memory.specs.Fields.{waiting, order_at}
use Rattle.memory.specs.Seen.{state, SameSlice}
use Rattle.network.specs.Array.{Progress}
use Rattle.topology.specs.Links.{links_of}
use Rattle.topology.specs.Order.{ChainsOut, Draining, Topological}
use Rattle.topology.specs.OrderLaws.{chains_out_kept, draining_now, topological}
use Rattle.memory.specs.SeenLaws.{same_then, sized, sized_back}
use Rattle.topology.proofs.order_activities.Goals as goal

pub drain-requires : goal.drain-requires
drain-requires c =
    let e = c.chain_both.ensures in
    let f = c.start.ensures in
    let q = c.start.new.self in
    let a = same_then e.3 f.1.same in
    let S = state c.chain_both.new.tables in
    let T = state q.tables.now in
    let d = sized_back e.3 (λ n k. Draining n k S T 0 q.end) f.0 in
    (sized a (λ n k. ChainsOut n k T) (chains_out_kept d.kept e.1), sized a (λ n k. Progress (links_of T k) n (T.act order_at) (T.act waiting) 0 q.end []) (draining_now d))

pub returns : goal.returns
returns c =
    let e = c.chain_both.ensures in
    let f = c.start.ensures in
    let g = c.drain.ensures in
    let q = c.start.new.self in
    let a = same_then e.3 f.1.same in
    let S = state c.chain_both.new.tables in
    let T = state q.tables.now in
    let t : Tables = c.drain.new.self.tables.now in
    let h = sized_back e.3 (λ n k. Draining n k S T 0 q.end) f.0 in
    let i = sized_back a (λ n k. Draining n k T (state t) c.drain.result c.drain.result) g.0 in
    let x = c.args.tables.now in
    subst (λ (u : Tables). Topological x.activities x.kept (state x) (state u) c.drain.result × SameSlice x u) (search rules) (topological e.0 e.1 e.2 h i, same_then e.3 (same_then f.1.same g.1.same))
