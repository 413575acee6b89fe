-- An order by its places: what stands behind all that it is linked to, read from the first; and an order leaves no room for a loop.
use Rattle.std.specs.Prelude.{◌≡◌, refl, ℕ, suc, ◌-◌, ◌≤◌, ◌<◌, length, get_or}
use Rattle.std.proofs.Common.{sym, ap, ◌∙◌, ⊎_elim, arith}
use mathlib.Core.List.{List, [], ◌∷◌, ◌++◌, reverse, reverse-cons}
use Rattle.std.proofs.lemmas.List.{length-reverse}
use Rattle.std.proofs.Math.ListN.{get_or-append}
use Rattle.std.proofs.Math.Seq.{get_or-append_seam}
use Rattle.number.specs.Order.{lt_or_le}
use Rattle.network.specs.Links.{Link, Linked, Row, Loop, CloseLoop, Ordered}
use Rattle.network.specs.Times.{same_cases, times, times_nil, times_cons, times_one, times_append, times_place, sum_times, sum_full}
use Rattle.network.specs.Pending.{Ranged}
use Rattle.network.specs.PendingLaws.{linked_to}
use Rattle.network.specs.Draining.{Behind, none, next}

pub times_reverse : (x : ℕ) (xs : List ℕ) → times x (reverse xs) ≡ times x xs
times_reverse x [] = refl
times_reverse x (y ∷ ys) =
    omega (arith, ap (times x) (reverse-cons y ys), times_append x (reverse ys) (y ∷ []), times_one x y, times_cons x y ys, times_reverse x ys)

-- what is linked to what stands at p stands before it
pub behind_before : {links : List Link} {out : List ℕ} → Behind links out → (p i : ℕ) → p < length out → Linked links i (get_or (reverse out) p 0)
    → (q : ℕ) × (q < p) × (get_or (reverse out) q 0 ≡ i)
behind_before none p i l e = absurd (omega arith)
behind_before {links} (next {v = v} {out = out} pred fresh t) p i l e =
    ⊎_elim
    (λ h.
    let r = behind_before t p i h (rw (at_old p h) at e) in (r.0, r.1, at_old r.0 (omega arith) ∙ r.2))
    (λ h.
    let w : p ≡ length out = omega arith in
    let s = times_place i (reverse out) (omega (arith, times_reverse i out, pred i (rw (at_new p w) at e))) in
    (s.0, omega (arith, length-reverse out), at_old s.0 (omega (arith, length-reverse out)) ∙ s.2)) (lt_or_le p (length out))
  where
    at_old : (p : ℕ) → p < length out → get_or (reverse (v ∷ out)) p 0 ≡ get_or (reverse out) p 0
    at_old p h = ap (λ (xs : List ℕ). get_or xs p 0) (reverse-cons v out) ∙ get_or-append (reverse out) (v ∷ []) 0 p (omega (arith, length-reverse out))

    at_new : (p : ℕ) → p ≡ length out → get_or (reverse (v ∷ out)) p 0 ≡ v
    at_new p w =
        ap (λ (xs : List ℕ). get_or xs p 0) (reverse-cons v out)
        ∙ ap (λ (k : ℕ). get_or (reverse out ++ (v ∷ [])) k 0) (w ∙ sym (length-reverse out)) ∙ get_or-append_seam (reverse out) v [] 0

-- ---- what an order of n activities has

-- a list whose places hold different numbers holds each once
pub place_once : (xs : List ℕ) → ((p q : ℕ) → p < length xs → q < length xs → get_or xs p 0 ≡ get_or xs q 0 → p ≡ q) → (j : ℕ) → times j xs ≤ 1
place_once [] h j = omega (arith, times_nil j)
place_once (x ∷ xs) h j =
    ⊎_elim
    (λ c.
    ⊎_elim (λ p. let r = times_place j xs p in absurd (let z = h 0 (suc r.0) (omega arith) (omega arith) (sym c.0 ∙ sym r.2) in omega arith))
    (λ z. omega (arith, times_cons j x xs)) (lt_or_le 0 (times j xs)))
    (λ c. omega (arith, times_cons j x xs, place_once xs (λ p q a b e. let z = h (suc p) (suc q) (omega arith) (omega arith) e in omega arith) j))
    (same_cases j x)

module _ {links : List Link} {n : ℕ} {order : List ℕ} (o : Ordered links n order) where
  -- every activity has a place
  pub ordered_place : (j : ℕ) → j < n → (p : ℕ) × (p < n) × (get_or order p 0 ≡ j)
  ordered_place j l =
      let once : (i : ℕ) → times i order ≤ 1 = place_once order (λ p q a b e. o.once p q (omega (arith, o.all)) (omega (arith, o.all)) e) in
      let under : (i : ℕ) → n ≤ i → times i order ≡ 0 = λ i h.
      ⊎_elim (λ p. let r = times_place i order p in absurd (omega (arith, o.below r.0 (omega (arith, o.all, r.1)), r.2))) (λ z. omega arith) (lt_or_le 0 (times i order)) in
      let f = sum_full (λ i. times i order) n (λ i h. once i) (omega (arith, sum_times n order under, o.all)) j l in
      let r = times_place j order (omega arith) in
      (r.0, omega (arith, o.all, r.1), r.2)

  -- along a row places rise: from the last one's place to an earlier one for the first
  row_rises : (x y : ℕ) (ys : List ℕ) → Row links (x ∷ y ∷ ys) → (p : ℕ) → p < n → get_or order p 0 ≡ get_or (x ∷ y ∷ ys) (suc (length ys)) 0
      → (q : ℕ) × (q < p) × (get_or order q 0 ≡ x)
  row_rises x y [] r p l e = o.before p x l (rw (sym e) at r.0)
  row_rises x y (z ∷ zs) r p l e =
      let s = row_rises y z zs r.1 p l e in
      let t = o.before s.0 x (omega arith) (rw (sym s.2) at r.0) in
      (t.0, omega arith, t.2)

  row_last : (range : Ranged links n) (x y : ℕ) (ys : List ℕ) → Row links (x ∷ y ∷ ys) → get_or (x ∷ y ∷ ys) (suc (length ys)) 0 < n
  row_last range x y [] r = linked_to range r.0
  row_last range x y (z ∷ zs) r = row_last range y z zs r.1

  -- an order leaves no loop
  pub ordered_no_loop : Ranged links n → ¬ (CloseLoop links)
  ordered_no_loop range (xs, w) = go xs w
    where
      go : (xs : List ℕ) → Loop links xs → ⊥
      go [] w = omega (arith, w.long)
      go (x ∷ []) w = omega (arith, w.long)
      go (x ∷ y ∷ ys) w =
          let p = ordered_place (get_or (x ∷ y ∷ ys) (suc (length ys)) 0) (row_last range x y ys w.row) in
          let s = row_rises x y ys w.row p.0 p.1 p.2 in
          let e : suc (suc (length ys)) - 1 ≡ suc (length ys) = omega arith in
          let closed : get_or (x ∷ y ∷ ys) (suc (length ys)) 0 ≡ x = ap (λ (k : ℕ). get_or (x ∷ y ∷ ys) k 0) (sym e) ∙ w.closed in
          let z = o.once s.0 p.0 (omega arith) p.1 (s.2 ∙ sym (p.2 ∙ closed)) in
          omega arith
