-- `topology::count_links` meets its contract: the first k links are counted.
use mathlib.Core.Path.{◌≡◌, refl, ap}
use Prim.Native.Nat.{ℕ}
use native.Mathlib.Omega.{arith}
use lib.ListN.{length}
use Rattle.memory.specs.Seen.{state}
use Rattle.memory.specs.Fields.{waiting, order_at, to_field}
use Rattle.network.proofs.Prefix.{Counted, counted_start, counted_done, into_take_le}
use Rattle.topology.specs.Links.{links_of}
use Rattle.topology.specs.LinksLaws.{links_length}
use Rattle.topology.specs.Frame.{Frame}
use Rattle.topology.specs.FrameLaws.{frame_refl, frame_then}
use Rattle.topology.specs.StepLaws.{counted_frame, counted_step}
use Rattle.memory.specs.SeenLaws.{same_refl, same_then}
use Rattle.topology.proofs.count_links.Goals as goal

pub loop-k-init : goal.loop-k-init
loop-k-init c =
    let x = c.args in
    let S = state x.tables.now in
    (same_refl x.tables.now, frame_refl waiting order_at 0 0 S, counted_start (links_of S x.tables.now.kept) (S.act waiting) c.requires.1)

pub count_link-requires : goal.count_link-requires
count_link-requires c =
    let L = c.loop-k in
    let p = c.requires in
    let x = c.args in
    let S = state x.tables.now in
    let T = state L.tables in
    let e = ap (λ (f : ℕ → ℕ). f L.k) (L.invariant.1.links to_field refl) in
    let n = L.invariant.2.counts (T.link to_field L.k) in
    (omega arith, omega (arith, e, p.0.enters L.k (omega arith)), omega (arith, n, into_take_le (links_of S x.tables.now.kept) L.k (T.link to_field L.k)))

pub loop-k-preserved : goal.loop-k-preserved
loop-k-preserved c =
    let L = c.loop-k in
    let x = c.args in
    let S = state x.tables.now in
    let T = state L.tables in
    let U = state c.count_link.new.tables in
    let e = c.count_link.ensures.0 in
    let F : Frame waiting order_at 0 0 T U = rw e (counted_frame T L.k) in
    (same_then L.invariant.0 c.count_link.ensures.1, frame_then waiting order_at 0 0 L.invariant.1 F, counted_step S T U x.tables.now.kept L.k (omega arith) L.invariant.1 e L.invariant.2)

pub returns : goal.returns
returns c =
    let L = c.loop-k in
    let x = c.args in
    let S = state x.tables.now in
    let e : L.k ≡ length (links_of S x.tables.now.kept) = omega (arith, links_length S x.tables.now.kept) in
    let d : Counted (links_of S x.tables.now.kept) ((state L.tables).act waiting) (length (links_of S x.tables.now.kept)) = rw e at L.invariant.2 in
    (counted_done (links_of S x.tables.now.kept) d, L.invariant.1, L.invariant.0)
