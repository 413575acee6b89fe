-- `memory::Tables::chain_links` meets its contract: the links from k on are in their chains.
use mathlib.Core.Path.{◌≡◌, ap, ◌∙◌}
use Prim.Native.Nat.{ℕ, ◌+◌, ◌-◌}
use native.Mathlib.Omega.{arith}
use Rattle.std.proofs.Common.{rules}
use Rattle.memory.specs.State.{State}
use Rattle.memory.specs.Seen.{state}
use Rattle.memory.specs.SeenLaws.{same_refl}
use Rattle.memory.specs.Chains.{linked, linked_from}
use Rattle.memory.specs.ChainsLaws.{kept_from, from_none, from_more}
use Rattle.memory.proofs.Tables.chain_links.Goals as goal

pub loop-k-init : goal.loop-k-init
loop-k-init c = let x = c.args in (same_refl x.self.now, from_none x.key x.head x.next (state x.self.now) x.self.now.kept)

pub chain_one-requires : goal.chain_one-requires
chain_one-requires c =
    let L = c.loop-k in
    let p = c.requires in
    let x = c.args in
    let k = L.k - 1 in
    let S = state x.self.now in
    let e = ap (λ (T : State). T.link x.key k) L.invariant.1 ∙ ap (λ (f : ℕ → ℕ). f k) ((kept_from x.head x.next x.key (x.self.now.kept - L.k) L.k S).links x.key p.3) in
    (omega arith, p.0, p.1, p.2, omega (arith, e, p.4 k (omega arith)))

pub loop-k-preserved : goal.loop-k-preserved
loop-k-preserved c =
    let L = c.loop-k in
    let x = c.args in
    let S = state x.self.now in
    let e : L.k ≡ (L.k - 1) + 1 = omega arith in
    let i = ap (λ (T : State). linked x.key x.head x.next T (L.k - 1)) (L.invariant.1 ∙ ap (λ (k : ℕ). linked_from x.key x.head x.next (x.self.now.kept - k) k S) e) in
    (search rules, c.chain_one.ensures.0 ∙ i ∙ from_more x.key x.head x.next S x.self.now.kept (L.k - 1) (omega arith))
