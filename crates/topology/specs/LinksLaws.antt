-- The links of the link table: how many, each of them, and what is left of an activity's chain.
use Rattle.std.specs.Prelude.{◌≡◌, ◌≢◌, length, get_or}
use Rattle.std.proofs.Math.Path.{refl, sym, ap, ap₂}
use Rattle.std.proofs.Common.{◌∙◌, add-one}
use Rattle.std.proofs.Math.Logic.{⊎_elim}
use mathlib.Core.List.{List, [], ◌∷◌, ◌++◌, map}
use Prim.Native.Nat.{ℕ, zero, suc, ◌+◌, ◌-◌, ◌≤◌, ◌<◌}
use native.Mathlib.Omega.{arith}
use Rattle.std.proofs.Math.ListN.{length-append, get_or-append}
use Rattle.std.proofs.Math.Seq.{get_or_at}
use Rattle.number.specs.Order.{eq_or_ne}
use Rattle.std.specs.List.{AllByRecursion}
use Rattle.cells.specs.Chain.{keyed, after, Stands}
use Rattle.cells.specs.ChainLaws.{keyed_same, after_all}
use Rattle.memory.specs.State.{State}
use Rattle.memory.specs.Fields.{from_field, to_field}
use Rattle.network.specs.Links.{Link, no_link}
use Rattle.network.specs.Pending.{Ranged}
use Rattle.network.specs.Outgoing.{from_at, to_at, targets, sources, targets_from, sources_from}
use Rattle.network.specs.Chains.{targets_start, targets_here, targets_end, sources_start, sources_here, sources_end}
use Rattle.topology.specs.Links.{link_at, links_of, Ends}

module _ (S : State) where
  pub links_none : links_of S 0 ≡ []
  unfolding links_of
  links_none = refl

  -- one more row, at the code's t + 1
  pub links_more : (t : ℕ) → links_of S (t + 1) ≡ links_of S t ++ (link_at S t ∷ [])
  unfolding links_of
  links_more t = rw (add-one t)

  pub links_length : (t : ℕ) → length (links_of S t) ≡ t
  unfolding links_of
  links_length zero = refl
  links_length (suc t) = length-append (links_of S t) (link_at S t ∷ []) ∙ ap (λ (n : ℕ). n + 1) (links_length t) ∙ omega arith

  pub links_at : (t k : ℕ) → k < t → get_or (links_of S t) k no_link ≡ link_at S k
  unfolding links_of
  links_at zero k h = absurd (omega arith)
  links_at (suc t) k h =
      ⊎_elim (λ (e : k ≡ t). get_or_at (links_of S t) (link_at S t) [] no_link k (links_length t ∙ sym e) ∙ ap (link_at S) (sym e))
      (λ (e : k ≢ t). get_or-append (links_of S t) (link_at S t ∷ []) no_link k (omega (arith, links_length t)) ∙ links_at t k (omega arith)) (eq_or_ne k t)

  pub from_at_lem : (t k : ℕ) → k < t → from_at (links_of S t) k ≡ S.link from_field k
  from_at_lem t k h = ap (λ (e : Link). e.from) (links_at t k h)

  pub to_at_lem : (t k : ℕ) → k < t → to_at (links_of S t) k ≡ S.link to_field k
  to_at_lem t k h = ap (λ (e : Link). e.to) (links_at t k h)

  pub links_ranged : {a t : ℕ} → Ends a t S → Ranged (links_of S t) a
  links_ranged {a} {t} E = record {
    leaves = λ k h. let b : k < t = omega (arith, links_length t) in omega (arith, from_at_lem t k b, E.leaves k b);
    enters = λ k h. let b : k < t = omega (arith, links_length t) in omega (arith, to_at_lem t k b, E.enters k b);
  }

-- what the link table's first two fields hold is all that counts
module _ (S T : State) (f : T.link from_field ≡ S.link from_field) (g : T.link to_field ≡ S.link to_field) where
  pub links_same : (t : ℕ) → links_of T t ≡ links_of S t
  unfolding links_of
  links_same zero = refl
  links_same (suc t) = ap₂ (λ (ls : List Link) (e : Link). ls ++ (e ∷ [])) (links_same t) (λ i. record { from = f i t; to = g i t })

  pub ends_same : {a t : ℕ} → Ends a t S → Ends a t T
  ends_same E = record { leaves = λ k h. rw f (E.leaves k h); enters = λ k h. rw g (E.enters k h) }

-- ---- an activity's chain, as the network has it

module _ (S : State) (t v : ℕ) where
  targets_after : (k : ℕ) → k ≤ t → targets_from (links_of S t) v k ≡ map (to_at (links_of S t)) (after (S.link from_field) t v k)
  unfolding targets_from
  targets_after k h =
      ap (λ (n : ℕ). map (to_at (links_of S t)) (keyed (from_at (links_of S t)) v (n - k) k)) (links_length S t)
      ∙ ap (map (to_at (links_of S t))) (keyed_same (from_at (links_of S t)) (S.link from_field) v (t - k) k (λ p b. from_at_lem S t p (omega arith)))

  sources_after : (k : ℕ) → k ≤ t → sources_from (links_of S t) v k ≡ map (from_at (links_of S t)) (after (S.link to_field) t v k)
  unfolding sources_from
  sources_after k h =
      ap (λ (n : ℕ). map (from_at (links_of S t)) (keyed (to_at (links_of S t)) v (n - k) k)) (links_length S t)
      ∙ ap (map (from_at (links_of S t))) (keyed_same (to_at (links_of S t)) (S.link to_field) v (t - k) k (λ p b. to_at_lem S t p (omega arith)))

  -- the links into v lead from its sources
  pub sources_are : sources (links_of S t) v ≡ map (S.link from_field) (after (S.link to_field) t v 0)
  sources_are =
      sym (sources_start (links_of S t) v) ∙ sources_after 0 (omega arith)
      ∙ map_ext (from_at (links_of S t)) (S.link from_field) (after (S.link to_field) t v 0) (λ k b. from_at_lem S t k b) (after_all (S.link to_field) t v 0 (omega arith))
    where
      map_ext : (f g : ℕ → ℕ) (ks : List ℕ) → ((k : ℕ) → k < t → f k ≡ g k) → AllByRecursion (λ k. (k < t) × (S.link to_field k ≡ v)) ks → map f ks ≡ map g ks
      map_ext f g [] h a = refl
      map_ext f g (k ∷ ks) h a = ap₂ (λ (x : ℕ) (xs : List ℕ). x ∷ xs) (h k a.0.0) (map_ext f g ks h a.1)

  -- between two links of a chain nothing is met
  pub targets_stands : (k k' : ℕ) → Stands (S.link from_field) t v k k' → targets_from (links_of S t) v k' ≡ targets_from (links_of S t) v k
  targets_stands k k' s =
      targets_after k' s.top ∙ ap (map (to_at (links_of S t))) (sym s.rest) ∙ sym (targets_after k (omega (arith, s.low, s.top)))

  pub sources_stands : (k k' : ℕ) → Stands (S.link to_field) t v k k' → sources_from (links_of S t) v k' ≡ sources_from (links_of S t) v k
  sources_stands k k' s =
      sources_after k' s.top ∙ ap (map (from_at (links_of S t))) (sym s.rest) ∙ sym (sources_after k (omega (arith, s.low, s.top)))

  pub targets_first : (k : ℕ) → Stands (S.link from_field) t v 0 k → targets_from (links_of S t) v k ≡ targets (links_of S t) v
  targets_first k s = targets_stands 0 k s ∙ targets_start (links_of S t) v

  pub sources_first : (k : ℕ) → Stands (S.link to_field) t v 0 k → sources_from (links_of S t) v k ≡ sources (links_of S t) v
  sources_first k s = sources_stands 0 k s ∙ sources_start (links_of S t) v

  pub targets_hit : (k : ℕ) → k < t → S.link from_field k ≡ v → targets_from (links_of S t) v k ≡ S.link to_field k ∷ targets_from (links_of S t) v (k + 1)
  targets_hit k h e =
      targets_here (links_of S t) v k (omega (arith, links_length S t)) (from_at_lem S t k h ∙ e) ∙ ap (λ (j : ℕ). j ∷ targets_from (links_of S t) v (k + 1)) (to_at_lem S t k h)

  pub sources_hit : (k : ℕ) → k < t → S.link to_field k ≡ v → sources_from (links_of S t) v k ≡ S.link from_field k ∷ sources_from (links_of S t) v (k + 1)
  sources_hit k h e =
      sources_here (links_of S t) v k (omega (arith, links_length S t)) (to_at_lem S t k h ∙ e) ∙ ap (λ (j : ℕ). j ∷ sources_from (links_of S t) v (k + 1)) (from_at_lem S t k h)

  pub targets_none : (k : ℕ) → t ≤ k → targets_from (links_of S t) v k ≡ []
  targets_none k h = targets_end (links_of S t) v k (omega (arith, links_length S t))

  pub sources_none : (k : ℕ) → t ≤ k → sources_from (links_of S t) v k ≡ []
  sources_none k h = sources_end (links_of S t) v k (omega (arith, links_length S t))
