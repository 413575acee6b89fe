-- The state with chains: what its chains list, and what stays.
use Rattle.std.specs.Prelude.{◌≡◌, refl, ◌≢◌, pos}
use Rattle.std.proofs.Common.{sym, ◌∙◌, subst}
use Rattle.std.proofs.Math.Path.{ap}
use Prim.Native.Nat.{ℕ, zero, suc, ◌+◌, ◌-◌, ◌<◌}
use native.Mathlib.Omega.{arith}
use Rattle.cells.specs.Chain.{Chained}
use Rattle.cells.specs.ChainLaws.{chained_none, chained_more}
use Rattle.memory.specs.State.{State, fill_act}
use Rattle.memory.specs.StateLaws.{act_same, act_row, act_field, act_z_field, link_same, link_row, link_field, link_z_field, fill_act_lem, fill_act_field, fill_act_z_field}
use Rattle.memory.specs.Chains.{linked, linked_from, with_chains, Kept, Chains}

module _ (head next : ℕ) where
  pub kept_refl : (S : State) → Kept head next S S
  kept_refl S = record { acts = λ f n. refl; links = λ f n. refl; acts_z = λ f n. refl; links_z = λ f n. refl }

  pub kept_then : {S T U : State} → Kept head next S T → Kept head next T U → Kept head next S U
  kept_then p q = record {
    acts = λ f n. q.acts f n ∙ p.acts f n;
    links = λ f n. q.links f n ∙ p.links f n;
    acts_z = λ f n. q.acts_z f n ∙ p.acts_z f n;
    links_z = λ f n. q.links_z f n ∙ p.links_z f n;
  }

  kept_fill : (S : State) (a v : ℕ) → Kept head next S (fill_act S head a v)
  kept_fill S a v = record {
    acts = λ f n. fill_act_field S head v a f n;
    links = λ f n. refl;
    acts_z = λ f n. fill_act_z_field S head v a f n;
    links_z = λ f n. refl;
  }

  module _ (key : ℕ) where
    kept_linked : (S : State) (k : ℕ) → Kept head next S (linked key head next S k)
    unfolding linked
    kept_linked S k =
        let i : ℕ = S.link key k in
        let v : ℕ = S.act head i in record {
          acts = λ f n. act_field S head i (pos k) f n;
          links = λ f n. link_field S next k (pos v) f n;
          acts_z = λ f n. act_z_field S head i (pos k) f n;
          links_z = λ f n. link_z_field S next k (pos v) f n;
        }

    pub kept_from : (n k : ℕ) (S : State) → Kept head next S (linked_from key head next n k S)
    unfolding linked_from
    kept_from zero k S = kept_refl S
    kept_from (suc n) k S = kept_then (kept_from n (k + 1) S) (kept_linked (linked_from key head next n (k + 1) S) k)

module _ (key head next : ℕ) (S : State) where
  -- the turns of the loop from t down to 0, at the code's k + 1
  pub from_none : (t : ℕ) → S ≡ linked_from key head next (t - t) t S
  unfolding linked_from
  from_none t = let e : t - t ≡ 0 = omega arith in rw e

  pub from_more : (t k : ℕ) → k < t → linked key head next (linked_from key head next (t - (k + 1)) (k + 1) S) k ≡ linked_from key head next (t - k) k S
  unfolding linked_from
  from_more t k h = let e : t - k ≡ suc (t - (k + 1)) = omega arith in rw e

  pub from_all : (t : ℕ) → linked_from key head next (t - 0) 0 S ≡ linked_from key head next t 0 S
  from_all t = let e : t - 0 ≡ t = omega arith in rw e

module _ (key head next a t : ℕ) (apart : key ≢ next) (S : State) (keys : (k : ℕ) → k < t → S.link key k < a) where
  chained_linked : (T : State) (k : ℕ) → k < t → Kept head next S T → Chained (S.link key) (T.act head) (T.link next) a t (k + 1)
      → Chained (S.link key) ((linked key head next T k).act head) ((linked key head next T k).link next) a t k
  unfolding linked
  chained_linked T k b K c =
      let e : T.link key k ≡ S.link key k = ap (λ (f : ℕ → ℕ). f k) (K.links key apart) in
      let i : ℕ = T.link key k in
      let v : ℕ = T.act head i in
      chained_more _ _ _ _ _ a t k b c (keys k b)
      (rw (sym e) (act_same T head i (pos k)))
      (λ j h n. act_row T head i (pos k) head j (λ d. n (d ∙ e)))
      (link_same T next k (pos v) ∙ ap (T.act head) e)
      (λ j n. link_row T next k (pos v) next j n)

  module _ (S₀ : State) (K : Kept head next S S₀) (heads : (i : ℕ) → i < a → S₀.act head i ≡ t) where
    chained_from : (n k : ℕ) → n + k ≡ t → Chained (S.link key) ((linked_from key head next n k S₀).act head) ((linked_from key head next n k S₀).link next) a t k
    unfolding linked_from
    chained_from zero k e = let d : k ≡ t = omega arith in rw d (chained_none (S.link key) (S₀.act head) (S₀.link next) a t heads)
    chained_from (suc n) k e =
        chained_linked (linked_from key head next n (k + 1) S₀) k (omega arith) (kept_then head next K (kept_from head next key n (k + 1) S₀))
        (chained_from n (k + 1) (omega arith))

  pub chains : Chains key head next a t S (with_chains key head next a t S)
  chains =
      let S₀ : State = fill_act S head a t in
      let K : Kept head next S (with_chains key head next a t S) = kept_then head next (kept_fill head next S a t) (kept_from head next key t 0 S₀) in record {
        kept = K;
        chained =
            subst (λ (to : ℕ → ℕ). Chained to ((with_chains key head next a t S).act head) ((with_chains key head next a t S).link next) a t 0)
            (sym (K.links key apart))
            (chained_from S₀ (kept_fill head next S a t) (λ i b. fill_act_lem S head t a i b) t 0 (omega arith));
      }
