-- The walk down a tree of the index, to the activity with an id or to the place where one that has it comes in.
use Rattle.std.specs.Prelude.{◌≡◌, ◌≢◌, ℕ, suc, ◌+◌, ◌/◌, ◌%◌, ◌<◌, Err}
use Rattle.std.proofs.Common.{sym, ap, subst, ◌∙◌, arith}
use Rattle.memory.specs.State.{State}
use Rattle.memory.specs.Fields.{root}
use Rattle.order.specs.Plan.{Plan}
use Rattle.order.specs.Ids.{id_of}
use Rattle.order.specs.IdLaws.{unknown_iff}
use Rattle.ids.specs.Tree.{Way, here, Leads, at_root, at_child}
use Rattle.ids.specs.TreeLaws.{way_then, way_on}
use Rattle.ids.specs.Index.{Indexed, found_in}
use Rattle.ids.specs.IndexLaws.{found_at, found_none}
use Rattle.ids.specs.Searched.{Searched}

-- the id leads to activity j with the bits of `rest` to go, and by them to each of the first n that has the id
pub record Seeking (p : Plan) (S : State) (n id j rest : ℕ) : Type 0 where
  pub below : j < n
  pub leads : Leads p.activities S.act id rest j
  pub ahead : (m : ℕ) → m < n → id_of p m ≡ id → (left : ℕ) × Way S.act left m rest j

module _ (p : Plan) (S : State) (n id : ℕ) (I : Indexed p S n) where
  -- ---- the root of the id's tree, as it was read
  reached : (m : ℕ) → m < n → id_of p m ≡ id → (left : ℕ) × Leads p.activities S.act id left m
  reached m l q = subst (λ (d : ℕ). (left : ℕ) × Leads p.activities S.act d left m) q (I.trees.reached m l)

  pub seeking_nowhere : 0 ≡ S.act root (id % p.activities) → Searched p S n id (Err (record { parent = id % p.activities; side = root }))
  seeking_nowhere e = (found_none p n id (λ m l q. let r = (reached m l q).1 in omega (arith, r.1)), at_root (sym e))

  pub seeking_start : (k : ℕ) → k + 1 ≡ S.act root (id % p.activities) → Seeking p S n id k (id / p.activities)
  seeking_start k e = let f : S.act root (id % p.activities) ≡ suc k = omega arith in record {
    below = I.trees.roots (id % p.activities) k f;
    leads = (k, f, here);
    ahead =
        λ m l q.
        let r = reached m l q in
        let z : r.1.0 ≡ k = omega (arith, r.1.1) in
        (r.0, subst (λ (x : ℕ). Way S.act r.0 m (id / p.activities) x) z r.1.2);
  }

  module _ (j rest : ℕ) (W : Seeking p S n id j rest) where
    pub seeking_found : id_of p j ≡ id → found_in p n id ≡ j
    seeking_found e =
        found_at p n id j W.below e (λ m a b q. (unknown_iff p m (id_of p m)).0 (I.fresh m b) j (omega arith) (e ∙ sym q))

    -- ---- a child, as it was read
    module _ (k : ℕ) (e : k + 1 ≡ S.act (rest % 2) j) where
      child : S.act (rest % 2) j ≡ suc k
      child = omega arith

      -- it comes after its parent
      pub child_later : (j < k) × (k < n)
      child_later = I.trees.later (rest % 2) j k (omega arith) W.below child

    module _ (other : id_of p j ≢ id) where
      on : (m : ℕ) → m < n → id_of p m ≡ id → (left : ℕ) × (k : ℕ) × (S.act (rest % 2) j ≡ suc k) × Way S.act left m (rest / 2) k
      on m l e =
          let r = W.ahead m l e in
          let s = way_on r.1 (λ (z : j ≡ m). other (ap (id_of p) z ∙ e)) in (r.0, s.0, s.1, s.2)

      pub seeking_end : 0 ≡ S.act (rest % 2) j → Searched p S n id (Err (record { parent = j; side = rest % 2 }))
      seeking_end e = (
        found_none p n id (λ m l q. let r = on m l q in omega (arith, r.2)),
        at_child {left = rest} W.below (sym e) W.leads,
      )

      pub seeking_turn : (k : ℕ) → k + 1 ≡ S.act (rest % 2) j → Seeking p S n id k (rest / 2)
      seeking_turn k e = let w = W.leads in record {
        below = (child_later k e).1;
        leads = (w.0, w.1, way_then w.2 k (child k e));
        ahead =
            λ m l q.
            let r = on m l q in
            let z : r.1 ≡ k = omega (arith, r.2, child k e) in
            (r.0, subst (λ (x : ℕ). Way S.act r.0 m (rest / 2) x) z r.3);
      }
