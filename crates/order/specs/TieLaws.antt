-- The kept links and the ignored ones: each link is one of the two, in rising order, and the kept ones lead from and to activities.
use Rattle.std.specs.Prelude.{◌≡◌, Bool, true, false, List, [], ◌∷◌, ◌++◌, ◌≢◌, ◌↔◌, ℕ, zero, suc, ◌+◌, ◌≤◌, ◌<◌, length, get_or}
use Rattle.std.proofs.Math.Path.{refl}
use Rattle.std.proofs.Common.{sym, ap, ◌∙◌, true≢false, ⊎_elim, arith, add-one, length-append}
use Rattle.std.proofs.Math.ListN.{get_or-append}
use Rattle.std.proofs.lemmas.List.{get_or_at}
use Rattle.number.specs.Order.{cases, lt_or_le, eq_or_ne}
use Rattle.network.specs.Links.{Link, no_link, Linked}
use Rattle.network.specs.Pending.{Ranged}
use Rattle.order.specs.Plan.{Plan}
use Rattle.order.specs.Ties.{from_of, to_of, ignored, kept_below, ignored_below, ends_below, kept_links}
use Rattle.order.specs.IdLaws.{index_below}
use Rattle.order.specs.FineLaws.{LinksFine}

module _ (p : Plan) where
  abbrev pub ends_of : ℕ → Link
  ends_of k = record { from = from_of p k; to = to_of p k }

  -- ---- one more link
  pub kept_none : kept_below p 0 ≡ []
  unfolding kept_below
  kept_none = refl

  pub ignored_none : ignored_below p 0 ≡ []
  unfolding ignored_below
  ignored_none = refl

  pub ends_none : ends_below p 0 ≡ []
  unfolding ends_below
  ends_none = refl

  module _ (k : ℕ) where
    module _ (e : ignored p k ≡ true) where
      kept_suc_ignored : kept_below p (suc k) ≡ kept_below p k
      unfolding kept_below
      kept_suc_ignored = simp (e, kept_below)

      ignored_suc_ignored : ignored_below p (suc k) ≡ ignored_below p k ++ (k ∷ [])
      unfolding ignored_below
      ignored_suc_ignored = simp (e, ignored_below)

      ends_suc_ignored : ends_below p (suc k) ≡ ends_below p k
      unfolding ends_below
      ends_suc_ignored = simp (e, ends_below)

      pub kept_ignored : kept_below p (k + 1) ≡ kept_below p k
      kept_ignored = ap (kept_below p) (add-one k) ∙ kept_suc_ignored

      pub ignored_ignored : ignored_below p (k + 1) ≡ ignored_below p k ++ (k ∷ [])
      ignored_ignored = ap (ignored_below p) (add-one k) ∙ ignored_suc_ignored

      pub ends_ignored : ends_below p (k + 1) ≡ ends_below p k
      ends_ignored = ap (ends_below p) (add-one k) ∙ ends_suc_ignored

    module _ (e : ignored p k ≡ false) where
      kept_suc_kept : kept_below p (suc k) ≡ kept_below p k ++ (k ∷ [])
      unfolding kept_below
      kept_suc_kept = simp (e, kept_below)

      ignored_suc_kept : ignored_below p (suc k) ≡ ignored_below p k
      unfolding ignored_below
      ignored_suc_kept = simp (e, ignored_below)

      ends_suc_kept : ends_below p (suc k) ≡ ends_below p k ++ (ends_of k ∷ [])
      unfolding ends_below
      ends_suc_kept = simp (e, ends_below)

      pub kept_kept : kept_below p (k + 1) ≡ kept_below p k ++ (k ∷ [])
      kept_kept = ap (kept_below p) (add-one k) ∙ kept_suc_kept

      pub ignored_kept : ignored_below p (k + 1) ≡ ignored_below p k
      ignored_kept = ap (ignored_below p) (add-one k) ∙ ignored_suc_kept

      pub ends_kept : ends_below p (k + 1) ≡ ends_below p k ++ (ends_of k ∷ [])
      ends_kept = ap (ends_below p) (add-one k) ∙ ends_suc_kept

  -- ---- how many
  pub ends_length : (l : ℕ) → length (ends_below p l) ≡ length (kept_below p l)
  ends_length zero = ap length ends_none ∙ sym (ap length kept_none)
  ends_length (suc k) =
      ⊎_elim
      (λ (e : ignored p k ≡ true).
      omega (arith, ends_length k, ap length (ends_suc_ignored k e), ap length (kept_suc_ignored k e)))
      (λ (e : ignored p k ≡ false).
      omega (
        arith,
        ends_length k,
        ap length (ends_suc_kept k e) ∙ length-append (ends_below p k) (ends_of k ∷ []),
        ap length (kept_suc_kept k e) ∙ length-append (kept_below p k) (k ∷ []),
      )) (cases (ignored p k))

  pub kept_and_ignored : (l : ℕ) → length (kept_below p l) + length (ignored_below p l) ≡ l
  kept_and_ignored zero = omega (arith, ap length kept_none, ap length ignored_none)
  kept_and_ignored (suc k) =
      ⊎_elim
      (λ (e : ignored p k ≡ true).
      omega (
        arith,
        kept_and_ignored k,
        ap length (kept_suc_ignored k e),
        ap length (ignored_suc_ignored k e) ∙ length-append (ignored_below p k) (k ∷ []),
      ))
      (λ (e : ignored p k ≡ false).
      omega (
        arith,
        kept_and_ignored k,
        ap length (ignored_suc_kept k e),
        ap length (kept_suc_kept k e) ∙ length-append (kept_below p k) (k ∷ []),
      )) (cases (ignored p k))

  pub ignored_le : (l : ℕ) → length (ignored_below p l) ≤ l
  ignored_le l = omega (arith, kept_and_ignored l)

  -- ---- which: those of the first l links whose test is b, in rising order
  pub record Picked (b : Bool) (l : ℕ) (xs : List ℕ) : Type 0 where
    pub below : (q : ℕ) → q < length xs → get_or xs q 0 < l
    pub has : (q : ℕ) → q < length xs → ignored p (get_or xs q 0) ≡ b
    pub rising : (q r : ℕ) → q < r → r < length xs → get_or xs q 0 < get_or xs r 0
    pub all : (k : ℕ) → k < l → ignored p k ≡ b → (q : ℕ) × (q < length xs) × (get_or xs q 0 ≡ k)

  picked_none : (b : Bool) → Picked b 0 []
  picked_none b = record {
    below = λ q h. absurd (omega arith);
    has = λ q h. absurd (omega arith);
    rising = λ q r g h. absurd (omega arith);
    all = λ k h e. absurd (omega arith);
  }

  picked_skip : (b : Bool) (l : ℕ) (xs : List ℕ) → ignored p l ≢ b → Picked b l xs → Picked b (suc l) xs
  picked_skip b l xs n c = record {
    below = λ q h. omega (arith, c.below q h);
    has = c.has;
    rising = c.rising;
    all = λ k h e. ⊎_elim (λ (g : k ≡ l). absurd (n (ap (ignored p) (sym g) ∙ e))) (λ g. c.all k (omega arith) e) (eq_or_ne k l);
  }

  picked_take : (b : Bool) (l : ℕ) (xs : List ℕ) → ignored p l ≡ b → Picked b l xs → Picked b (suc l) (xs ++ (l ∷ []))
  picked_take b l xs e c = record {
    below = λ q h.
        ⊎_elim (λ (a : q < length xs). omega (arith, c.below q a, before q a)) (λ a. omega (arith, last q (end q h a))) (lt_or_le q (length xs));
    has = λ q h.
        ⊎_elim (λ (a : q < length xs). ap (ignored p) (before q a) ∙ c.has q a) (λ a. ap (ignored p) (last q (end q h a)) ∙ e)
        (lt_or_le q (length xs));
    rising = λ q r g h.
        ⊎_elim (λ (a : r < length xs). omega (arith, c.rising q r g a, before q (omega arith), before r a))
        (λ (a : length xs ≤ r).
        let f : r ≡ length xs = end r h a in
        let d : q < length xs = omega arith in
        omega (arith, last r f, before q d, c.below q d)) (lt_or_le r (length xs));
    all = λ k h f.
        ⊎_elim (λ (g : k ≡ l). (length xs, omega (arith, longer), last (length xs) refl ∙ sym g))
        (λ g. let r = c.all k (omega arith) f in (r.0, omega (arith, longer, r.1), before r.0 r.1 ∙ r.2)) (eq_or_ne k l);
  }
    where
      longer : length (xs ++ (l ∷ [])) ≡ length xs + 1
      longer = length-append xs (l ∷ [])

      end : (q : ℕ) → q < length (xs ++ (l ∷ [])) → length xs ≤ q → q ≡ length xs
      end q h a = omega (arith, longer)

      before : (q : ℕ) → q < length xs → get_or (xs ++ (l ∷ [])) q 0 ≡ get_or xs q 0
      before q h = get_or-append xs (l ∷ []) 0 q h

      last : (q : ℕ) → q ≡ length xs → get_or (xs ++ (l ∷ [])) q 0 ≡ l
      last q h = get_or_at xs l [] 0 q (sym h)

  pub kept_picked : (l : ℕ) → Picked false l (kept_below p l)
  kept_picked zero = rw kept_none (picked_none false)
  kept_picked (suc k) =
      ⊎_elim
      (λ (e : ignored p k ≡ true).
      rw (kept_suc_ignored k e) (picked_skip false k (kept_below p k) (λ f. true≢false (sym e ∙ f)) (kept_picked k)))
      (λ (e : ignored p k ≡ false). rw (kept_suc_kept k e) (picked_take false k (kept_below p k) e (kept_picked k))) (cases (ignored p k))

  -- "the ignored links' positions among link records (from 0, rising)"
  pub ignored_picked : (l : ℕ) → Picked true l (ignored_below p l)
  ignored_picked zero = rw ignored_none (picked_none true)
  ignored_picked (suc k) =
      ⊎_elim (λ (e : ignored p k ≡ true). rw (ignored_suc_ignored k e) (picked_take true k (ignored_below p k) e (ignored_picked k)))
      (λ (e : ignored p k ≡ false).
      rw (ignored_suc_kept k e) (picked_skip true k (ignored_below p k) (λ f. true≢false (sym f ∙ e)) (ignored_picked k))) (cases (ignored p k))

  -- ---- the ends of the kept links, at the same places
  pub ends_at : (l q : ℕ) → q < length (kept_below p l) → get_or (ends_below p l) q no_link ≡ ends_of (get_or (kept_below p l) q 0)
  ends_at zero q h = absurd (omega (arith, ap length kept_none))
  ends_at (suc k) q h =
      ⊎_elim
      (λ (e : ignored p k ≡ true).
      let s : q < length (kept_below p k) = omega (arith, ap length (kept_suc_ignored k e)) in
      ap (λ (xs : List Link). get_or xs q no_link) (ends_suc_ignored k e) ∙ ends_at k q s
      ∙ ap (λ (xs : List ℕ). ends_of (get_or xs q 0)) (sym (kept_suc_ignored k e)))
      (λ (e : ignored p k ≡ false).
      ap (λ (xs : List Link). get_or xs q no_link) (ends_suc_kept k e) ∙
      ⊎_elim
      (λ (s : q < length (kept_below p k)).
      get_or-append (ends_below p k) (ends_of k ∷ []) no_link q (omega (arith, ends_length k)) ∙ ends_at k q s
      ∙ ap ends_of (sym (get_or-append (kept_below p k) (k ∷ []) 0 q s)))
      (λ (s : length (kept_below p k) ≤ q).
      let t : length (kept_below p k) ≡ q = omega (arith, ap length (kept_suc_kept k e) ∙ length-append (kept_below p k) (k ∷ [])) in
      get_or_at (ends_below p k) (ends_of k) [] no_link q (ends_length k ∙ t) ∙ ap ends_of (sym (get_or_at (kept_below p k) k [] 0 q t)))
      (lt_or_le q (length (kept_below p k)))
      ∙ ap (λ (xs : List ℕ). ends_of (get_or xs q 0)) (sym (kept_suc_kept k e))) (cases (ignored p k))

  -- some kept link leads from activity i to activity j
  pub record KeptFrom (i j : ℕ) : Type 0 where
    pub link : ℕ
    pub within : link < p.links
    pub kept : ignored p link ≡ false
    pub leaves : from_of p link ≡ i
    pub enters : to_of p link ≡ j

  pub linked_kept : (i j : ℕ) → Linked (kept_links p) i j → KeptFrom i j
  linked_kept i j e =
      let l : e.place < length (kept_below p p.links) = omega (arith, e.within, ends_length p.links) in
      let s = ends_at p.links e.place l in
      let c = kept_picked p.links in
      record {
        link = get_or (kept_below p p.links) e.place 0;
        within = c.below e.place l;
        kept = c.has e.place l;
        leaves = ap (λ (k : Link). k.from) (sym s) ∙ e.leaves;
        enters = ap (λ (k : Link). k.to) (sym s) ∙ e.enters;
      }

  pub kept_linked : (i j : ℕ) → KeptFrom i j → Linked (kept_links p) i j
  kept_linked i j f =
      let r = (kept_picked p.links).all f.link f.within f.kept in
      let s = ends_at p.links r.0 r.1 ∙ ap ends_of r.2 in
      record {
        place = r.0;
        within = omega (arith, r.1, ends_length p.links);
        leaves = ap (λ (k : Link). k.from) s ∙ f.leaves;
        enters = ap (λ (k : Link). k.to) s ∙ f.enters;
      }

  pub linked_iff : (i j : ℕ) → Linked (kept_links p) i j ↔ KeptFrom i j
  linked_iff i j = (linked_kept i j, kept_linked i j)

  -- ---- after rows 13 and 14
  module _ (links : LinksFine p) where
    pub from_below : (k : ℕ) → k < p.links → from_of p k < p.activities
    from_below k l = index_below p (p.link k).predecessor (links k l).from

    pub to_below : (k : ℕ) → k < p.links → to_of p k < p.activities
    to_below k l = index_below p (p.link k).successor (links k l).to

    pub kept_ranged : Ranged (kept_links p) p.activities
    kept_ranged = record {
      leaves = λ q h. let f = link_at q h in omega (arith, f.leaves, from_below f.link f.within);
      enters = λ q h. let f = link_at q h in omega (arith, f.enters, to_below f.link f.within);
    }
      where
        link_at : (q : ℕ) → q < length (kept_links p) → KeptFrom (get_or (kept_links p) q no_link).from (get_or (kept_links p) q no_link).to
        link_at q h =
            linked_kept (get_or (kept_links p) q no_link).from (get_or (kept_links p) q no_link).to
            (record { place = q; within = h; leaves = refl; enters = refl })
