-- How the chains are built, from the last activity to the first.
use Rattle.std.specs.Prelude.{◌≡◌, ◌≢◌, ℕ, suc, ◌+◌, ◌<◌, pos}
use Rattle.std.proofs.Common.{sym, ap, ◌∙◌, subst, ⊎_elim, arith}
use Rattle.number.specs.Order.{eq_or_ne}
use Rattle.cells.specs.ChainLaws.{stands_here, stands_end, stands_back}
use Rattle.memory.specs.State.{State, put_act, fill_act}
use Rattle.memory.specs.StateLaws.{act_same, act_row, act_field, fill_act_lem}
use Rattle.topology.specs.Frame.{Frame}
use Rattle.topology.specs.FrameLaws.{outside_below, frame_put, frame_then}
use Rattle.rollup.specs.Chained.{Linked, LinkedIn, KeysIn}

linked_none : (key head next : ℕ → ℕ) (a : ℕ) → ((i : ℕ) → i < a → head i ≡ a) → Linked key head next a a
linked_none key head next a h = record {
  heads = λ i b. rw (h i b) (stands_end key a (suc i));
  nexts = λ j g b o. absurd (omega arith);
}

-- an activity without a key changes nothing
linked_skip : (key head next : ℕ → ℕ) (a k : ℕ) → k < a → key k ≡ 0 → Linked key head next a (k + 1) → Linked key head next a k
linked_skip key head next a k b z L = record {
  heads = λ i g. stands_back key a (suc i) k (head i) b (λ e. omega (arith, e, z)) (L.heads i g);
  nexts = λ j g x o. L.nexts j (omega (arith, apart j o)) x o;
}
  where
    apart : (j : ℕ) → 0 < key j → j ≢ k
    apart j o e = omega (arith, ap key e)

-- one more in front of those with its key
linked_more : (key head next head' next' : ℕ → ℕ) (a k i : ℕ) → k < a → key k ≡ suc i → i < a → Linked key head next a (k + 1)
    → head' i ≡ k → ((j : ℕ) → j ≢ i → head' j ≡ head j) → next' k ≡ head i → ((j : ℕ) → j ≢ k → next' j ≡ next j) → Linked key head' next' a k
linked_more key head next head' next' a k i b e c L h1 h2 n1 n2 = record {
  heads = λ j g.
      ⊎_elim (λ (d : j ≡ i). rw (d, h1) (stands_here key a (suc i) k b e))
      (λ (n : j ≢ i). rw (h2 j n) (stands_back key a (suc j) k (head j) b (λ d. n (omega (arith, d, e))) (L.heads j g))) (eq_or_ne j i);
  nexts = λ j g x o.
      ⊎_elim (λ (d : j ≡ k). rw (d, n1, e) (L.heads i c)) (λ (n : j ≢ k). rw (n2 j n) (L.nexts j (omega (arith, n)) x o)) (eq_or_ne j k);
}

module _ (key head a : ℕ) (below : key < head) where
  pub chain_none : (S : State) → LinkedIn key head a a (fill_act S head a a)
  chain_none S = linked_none _ _ _ a (λ i b. fill_act_lem S head a a i b)

  pub chain_skip : (S : State) (c : ℕ) → c < a → S.act key c ≡ 0 → LinkedIn key head a (c + 1) S → LinkedIn key head a c S
  chain_skip S c b z L = linked_skip _ _ _ a c b z L

  module _ (S : State) (c i : ℕ) (b : c < a) (e : S.act key c ≡ suc i) (n : i < a) (L : LinkedIn key head a (c + 1) S) where
    abbrev pub chained_one : State
    chained_one = put_act (put_act S (head + 1) c (S.act head i)) head i c

    key_kept : chained_one.act key ≡ S.act key
    key_kept = act_field (put_act S (head + 1) c (S.act head i)) head i (pos c) key (λ d. omega arith) ∙ act_field S (head + 1) c (pos (S.act head i)) key (λ d. omega arith)

    pub chain_more : LinkedIn key head a c chained_one
    chain_more =
        let T : State = put_act S (head + 1) c (S.act head i) in
        let h : T.act head ≡ S.act head = act_field S (head + 1) c (pos (S.act head i)) head (λ d. omega arith) in
        let m : chained_one.act (head + 1) ≡ T.act (head + 1) = act_field T head i (pos c) (head + 1) (λ d. omega arith) in
        subst (λ (k : ℕ → ℕ). Linked k (chained_one.act head) (chained_one.act (head + 1)) a c) (sym key_kept)
        (linked_more (S.act key) (S.act head) (S.act (head + 1)) (chained_one.act head) (chained_one.act (head + 1)) a c i b e n L
        (act_same T head i (pos c)) (λ j d. act_row T head i (pos c) head j d ∙ ap (λ (f : ℕ → ℕ). f j) h)
        (ap (λ (f : ℕ → ℕ). f c) m ∙ act_same S (head + 1) c (pos (S.act head i)))
        (λ j d. ap (λ (f : ℕ → ℕ). f j) m ∙ act_row S (head + 1) c (pos (S.act head i)) (head + 1) j d))

    pub chain_frame : Frame head (head + 2) 0 0 S chained_one
    chain_frame =
        frame_then head (head + 2) 0 0 (frame_put head (head + 2) 0 0 (head + 1) (omega arith) (omega arith) S c (pos (S.act head i)))
        (frame_put head (head + 2) 0 0 head (omega arith) (omega arith) (put_act S (head + 1) c (S.act head i)) i (pos c))

  pub keys_kept : (S T : State) → Frame head (head + 2) 0 0 S T → KeysIn key a S → KeysIn key a T
  keys_kept S T F K j b = omega (arith, ap (λ (f : ℕ → ℕ). f j) (F.acts key (outside_below head (head + 2) key below)), K j b)
