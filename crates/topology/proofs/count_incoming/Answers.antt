-- `topology::count_incoming` meets its contract.
use Prim.Native.Nat.{ℕ}
use mathlib.Core.Path.{ap, ◌∙◌}
use native.Mathlib.Omega.{arith}
use Rattle.memory.specs.State.{State}
use Rattle.memory.specs.Seen.{state}
use Rattle.memory.specs.Fields.{from_field, to_field, waiting, order_at}
use Rattle.network.specs.Kahn.{into}
use Rattle.topology.specs.Links.{links_of, Ends}
use Rattle.topology.specs.LinksLaws.{links_same, ends_same}
use Rattle.topology.specs.StepLaws.{fill_zero}
use Rattle.topology.specs.Frame.{Frame}
use Rattle.topology.specs.FrameLaws.{frame_fill, frame_then}
use Rattle.memory.specs.SeenLaws.{same_then, sized}
use Rattle.topology.proofs.count_incoming.Goals as goal

pub count_links-requires : goal.count_links-requires
count_links-requires c =
    let x = c.args in
    let p = c.requires in
    let S = state x.tables.now in
    let ys = c.fill_act.new.self in
    let T = state ys in
    let e = c.fill_act.ensures.0 in
    let d = c.fill_act.ensures.1 in
    (sized d (λ n k. Ends n k T) (ends_same S T (ap (λ (W : State). W.link from_field) e) (ap (λ (W : State). W.link to_field) e) p), fill_zero ys S waiting x.tables.now.activities d.activities e)

pub returns : goal.returns
returns c =
    let x = c.args in
    let S = state x.tables.now in
    let T = state c.fill_act.new.self in
    let e = c.fill_act.ensures.0 in
    let f = links_same S T (ap (λ (W : State). W.link from_field) e) (ap (λ (W : State). W.link to_field) e) x.tables.now.kept in
    let F : Frame waiting order_at 0 0 S T = rw e (frame_fill waiting order_at 0 0 waiting (omega arith) (omega arith) S x.tables.now.activities 0) in
    let r = c.count_links.ensures in
    (λ i. r.0 i ∙ ap (λ (n : ℕ). into (links_of T n) i) c.fill_act.ensures.1.kept ∙ ap (λ (ls : _). into ls i) f, frame_then waiting order_at 0 0 F r.1, same_then c.fill_act.ensures.1 r.2)
