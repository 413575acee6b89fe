-- Open ends: a non-summary is none exactly where some kept link enters it and some kept link leaves it.
use Rattle.std.specs.Prelude.{◌≡◌, List, ◌≢◌, ◌↔◌, ℕ, zero, suc, ◌+◌, ◌-◌, ◌≤◌, ◌<◌, length}
use Rattle.std.proofs.Math.Path.{refl, ap}
use Rattle.std.proofs.Common.{sym, ◌∙◌, true≢false, ⊎_elim, arith, add-one}
use Rattle.std.proofs.Math.Bool.{true, false}
use borrow.Author.Tests.{eq-eqb, ne_eqb}
use Rattle.std.proofs.Math.Dec.{eqb}
use Rattle.number.specs.Order.{cases, eq_or_ne}
use Rattle.network.specs.Links.{Link, Linked}
use Rattle.network.specs.Outgoing.{from_at, to_at, incoming, outgoing}
use Rattle.cells.specs.Chain.{keyed}
use Rattle.network.specs.OutgoingLaws.{keyed_end, keyed_hit, keyed_miss}
use Rattle.order.specs.Plan.{Plan}
use Rattle.order.specs.Ids.{summary}
use Rattle.order.specs.Ties.{kept_links, is_open, open_below}
use Rattle.order.specs.TieLaws.{KeptFrom, linked_kept, kept_linked}

-- ---- some of l indexes has the key
module _ (key : ℕ → ℕ) (v l : ℕ) where
  from_keyed : (m k : ℕ) → l ≡ k + m → length (keyed key v (l - k) k) ≢ 0 → (j : ℕ) × (j < l) × (key j ≡ v)
  from_keyed zero k e n = absurd (n (ap length (keyed_end key v l k (omega arith))))
  from_keyed (suc m) k e n =
      ⊎_elim (λ (h : key k ≡ v). (k, omega arith, h))
      (λ (h : key k ≢ v). from_keyed m (k + 1) (omega arith) (λ z. n (ap length (keyed_miss key v l k (omega arith) h) ∙ z)))
      (eq_or_ne (key k) v)

  to_keyed : (m k j : ℕ) → l ≡ k + m → k ≤ j → j < l → key j ≡ v → length (keyed key v (l - k) k) ≢ 0
  to_keyed zero k j e a b q z = omega arith
  to_keyed (suc m) k j e a b q z =
      ⊎_elim (λ (h : key k ≡ v). omega (arith, ap length (keyed_hit key v l k (omega arith) h)))
      (λ (h : key k ≢ v).
      let c : k + 1 ≤ j = ⊎_elim (λ (s : k ≡ j). absurd (h (ap key s ∙ q))) (λ s. omega arith) (eq_or_ne k j) in
      to_keyed m (k + 1) j (omega arith) c b q (ap length (sym (keyed_miss key v l k (omega arith) h)) ∙ z)) (eq_or_ne (key k) v)

  keyed_iff : (length (keyed key v l 0) ≢ 0) ↔ ((j : ℕ) × (j < l) × (key j ≡ v))
  keyed_iff =
      let e : l - 0 ≡ l = omega arith in (
        λ n. from_keyed l 0 (omega arith) (rw e n),
        λ w. rw e at (to_keyed l 0 w.0 (omega arith) (omega arith) w.1 w.2),
      )

module _ (links : List Link) (i : ℕ) where
  pub incoming_iff : (length (incoming links i) ≢ 0) ↔ ((j : ℕ) × Linked links j i)
  unfolding incoming
  incoming_iff = (
    λ n.
        let r = (keyed_iff (to_at links) i (length links)).0 n in
        (from_at links r.0, record { place = r.0; within = r.1; leaves = refl; enters = r.2 }),
    λ w. (keyed_iff (to_at links) i (length links)).1 (w.1.place, w.1.within, w.1.enters),
  )

  pub outgoing_iff : (length (outgoing links i) ≢ 0) ↔ ((j : ℕ) × Linked links i j)
  unfolding outgoing
  outgoing_iff = (
    λ n.
        let r = (keyed_iff (from_at links) i (length links)).0 n in
        (to_at links r.0, record { place = r.0; within = r.1; leaves = r.2; enters = refl }),
    λ w. (keyed_iff (from_at links) i (length links)).1 (w.1.place, w.1.within, w.1.leaves),
  )

module _ (p : Plan) where
  -- ---- the ways
  module _ (i : ℕ) where
    abbrev into : ℕ
    into = length (incoming (kept_links p) i)

    abbrev out_of : ℕ
    out_of = length (outgoing (kept_links p) i)

    pub open_summary : summary p i ≡ true → is_open p i ≡ false
    unfolding is_open
    open_summary e = simp (e, is_open)

    module _ (e : summary p i ≡ false) where
      pub open_in : into ≡ 0 → is_open p i ≡ true
      unfolding is_open
      open_in h = let f : eqb into 0 ≡ true = eq-eqb into 0 h in simp (e, f, is_open)

      module _ (n : into ≢ 0) where
        pub open_out : out_of ≡ 0 → is_open p i ≡ true
        unfolding is_open
        open_out h =
            let f : eqb into 0 ≡ false = ne_eqb into 0 n in
            let g : eqb out_of 0 ≡ true = eq-eqb out_of 0 h in
            simp (e, f, g, is_open)

        pub open_neither : out_of ≢ 0 → is_open p i ≡ false
        unfolding is_open
        open_neither h =
            let f : eqb into 0 ≡ false = ne_eqb into 0 n in
            let g : eqb out_of 0 ≡ false = ne_eqb out_of 0 h in
            simp (e, f, g, is_open)

      -- "non-summaries with no kept incoming or no kept outgoing link"
      pub not_open_iff : (is_open p i ≡ false) ↔ (((j : ℕ) × KeptFrom p j i) × ((j : ℕ) × KeptFrom p i j))
      not_open_iff = (
        λ h.
            ⊎_elim (λ z. absurd (true≢false (sym (open_in z) ∙ h)))
            (λ n.
            ⊎_elim (λ z. absurd (true≢false (sym (open_out n z) ∙ h)))
            (λ m.
            let a = (incoming_iff (kept_links p) i).0 n in
            let b = (outgoing_iff (kept_links p) i).0 m in
            ((a.0, linked_kept p a.0 i a.1), (b.0, linked_kept p i b.0 b.1))) (eq_or_ne out_of 0)) (eq_or_ne into 0),
        λ w.
            open_neither ((incoming_iff (kept_links p) i).1 (w.0.0, kept_linked p w.0.0 i w.0.1))
            ((outgoing_iff (kept_links p) i).1 (w.1.0, kept_linked p i w.1.0 w.1.1)),
      )

  -- ---- counting
  pub open_none : open_below p 0 ≡ 0
  unfolding open_below
  open_none = refl

  module _ (n : ℕ) where
    pub open_one : is_open p n ≡ true → open_below p (n + 1) ≡ open_below p n + 1
    unfolding open_below
    open_one e = ap (open_below p) (add-one n) ∙ simp (e, open_below) (sym (add-one (open_below p n)))

    pub open_same : is_open p n ≡ false → open_below p (n + 1) ≡ open_below p n
    unfolding open_below
    open_same e = ap (open_below p) (add-one n) ∙ simp (e, open_below)

  pub open_le : (n : ℕ) → open_below p n ≤ n
  open_le zero = omega (arith, open_none)
  open_le (suc n) =
      let s : suc n ≡ n + 1 = omega arith in
      ⊎_elim (λ (e : is_open p n ≡ true). omega (arith, open_one n e, ap (open_below p) s, open_le n))
      (λ (e : is_open p n ≡ false). omega (arith, open_same n e, ap (open_below p) s, open_le n)) (cases (is_open p n))
