-- The loop that is named: where not all activities come out it is a loop of links, each of it waits, and it is no longer than all activities.
use Rattle.std.specs.Prelude.{◌≡◌, ◌≢◌, get_or}
use Rattle.std.proofs.Math.Path.{refl, ap, subst}
use Rattle.std.proofs.Common.{sym, ◌∙◌, length-append}
use Rattle.std.proofs.Math.Logic.{⊎_elim}
use mathlib.Core.List.{List, [], ◌∷◌, ◌++◌}
use Prim.Native.Nat.{ℕ, zero, suc, ◌+◌, ◌-◌, ◌≤◌, ◌<◌}
use native.Mathlib.Omega.{arith}
use Rattle.std.proofs.Math.ListN.{length, get_or-append}
use Rattle.std.proofs.Math.Seq.{get_or-append_seam}
use Rattle.number.specs.Order.{lt_or_le, eq_or_ne}
use Rattle.network.specs.Links.{Link, Linked, Row, Loop}
use Rattle.network.specs.Kahn.{drained, first_waiting, waiting_before, up_to, go_back, again}
use Rattle.network.specs.Times.{same, same_cases, times, times_nil, times_cons, times_one, times_append, times_at, Distinct, distinct_nil, distinct_cons, distinct_le}
use Rattle.network.specs.Pending.{Ranged}
use Rattle.network.specs.PendingLaws.{pending_source, sent_linked, linked_from_lem}
use Rattle.network.proofs.Draining.{Kept}
use Rattle.network.proofs.Draining.{drained_kept, out_or_waits, waits_below, one_waits}
use Rattle.network.proofs.GoingBack.{First, first_waiting_first, waiting_before_linked, member_times, up_to_here, up_to_on}

-- ---- the first once more at the end

pub again_length : (xs : List ℕ) → length (again xs) ≡ length xs + 1
unfolding again
again_length xs = length-append xs (get_or xs 0 0 ∷ [])

pub again_at : (xs : List ℕ) (k : ℕ) → k < length xs → get_or (again xs) k 0 ≡ get_or xs k 0
unfolding again
again_at xs k l = get_or-append xs (get_or xs 0 0 ∷ []) 0 k l

pub again_last : (xs : List ℕ) → get_or (again xs) (length xs) 0 ≡ get_or xs 0 0
unfolding again
again_last xs = get_or-append_seam xs (get_or xs 0 0) [] 0

again_closed : (xs : List ℕ) → 0 < length xs → get_or (again xs) (length (again xs) - 1) 0 ≡ get_or (again xs) 0 0
again_closed xs p =
    let e : length (again xs) - 1 ≡ length xs = omega (arith, again_length xs) in
    ap (λ (k : ℕ). get_or (again xs) k 0) e ∙ again_last xs ∙ sym (again_at xs 0 p)

pub again_times : (xs : List ℕ) → 0 < length xs → (j : ℕ) → 0 < times j (again xs) → 0 < times j xs
unfolding again
again_times xs p j h =
    ⊎_elim (λ e. omega (arith, times_at xs 0 p, ap (λ i. times i xs) e.0))
    (λ e. omega (arith, times_append j xs (get_or xs 0 0 ∷ []), times_one j (get_or xs 0 0))) (same_cases j (get_or xs 0 0))

module _ (links : List Link) (c : ℕ → ℕ) where
  up_to_times : (x j : ℕ) (ys : List ℕ) → times j (up_to links c x ys) ≤ times j ys
  unfolding up_to
  up_to_times x j [] = omega arith
  up_to_times x j (y ∷ ys) =
      ⊎_elim (λ e. omega (arith, ap (times j) (up_to_here links c x y ys e), times_one j y, times_cons j y ys))
      (λ e. omega (arith, ap (times j) (up_to_on links c x y ys e), times_cons j y (up_to links c x ys), times_cons j y ys, up_to_times x j ys)) (eq_or_ne x y)

  up_to_some : (x : ℕ) (ys : List ℕ) → 0 < times x ys → 0 < length (up_to links c x ys)
  unfolding up_to
  up_to_some x [] h = absurd (omega (arith, times_nil x))
  up_to_some x (y ∷ ys) h = omega arith

  -- a row that leads to x, as far as x, and on to z
  up_to_row : (x z : ℕ) (ys : List ℕ) → Row links ys → 0 < times x ys → Linked links x z → Row links (up_to links c x ys ++ (z ∷ []))
  unfolding up_to
  up_to_row x z [] r h e = absurd (omega (arith, times_nil x))
  up_to_row x z (y ∷ []) r h e =
      ⊎_elim (λ (q : (x ≡ y) × (same x y ≡ 1)). subst (λ (l : List ℕ). Row links (l ++ (z ∷ []))) (sym (up_to_here links c x y [] q.0)) (rw q.0 at e, tt))
      (λ q. absurd (omega (arith, times_one x y))) (same_cases x y)
  up_to_row x z (y ∷ w ∷ ws) r h e =
      ⊎_elim (λ (q : (x ≡ y) × (same x y ≡ 1)). subst (λ (l : List ℕ). Row links (l ++ (z ∷ []))) (sym (up_to_here links c x y (w ∷ ws) q.0)) (rw q.0 at e, tt))
      (λ (q : (x ≢ y) × (same x y ≡ 0)).
      subst (λ (l : List ℕ). Row links (l ++ (z ∷ []))) (sym (up_to_on links c x y (w ∷ ws) q.0))
      (r.0, up_to_row x z (w ∷ ws) r.1 (omega (arith, times_cons x y (w ∷ ws))) e)) (same_cases x y)

  up_to_first : (x y : ℕ) (ys : List ℕ) → get_or (up_to links c x (y ∷ ys)) 0 0 ≡ y
  unfolding up_to
  up_to_first x y ys = refl

  -- x, linked to the first of a row that has it: the row up to x closes a loop
  closes : (x : ℕ) (ys : List ℕ) → Row links (x ∷ ys) → 0 < times x ys → Loop links (again (up_to links c x ys))
  unfolding again
  closes x [] r h = absurd (omega (arith, times_nil x))
  closes x (y ∷ ys) r h =
      let s : 0 < length (up_to links c x (y ∷ ys)) = up_to_some x (y ∷ ys) h in record {
        long = omega (arith, again_length (up_to links c x (y ∷ ys)));
        closed = again_closed (up_to links c x (y ∷ ys)) s;
        row = up_to_row x (get_or (up_to links c x (y ∷ ys)) 0 0) (y ∷ ys) r.1 h (rw (sym (up_to_first x y ys)) at r.0);
      }

  -- a loop of links, once its first is put at the end; its numbers are distinct, below n, and wait
  pub record Named (n : ℕ) (xs : List ℕ) : Type 0 where
    pub some : 0 < length xs
    pub loop : Loop links (again xs)
    pub waits : (j : ℕ) → 0 < times j xs → 0 < c j
    pub distinct : Distinct n xs

  named_up_to : (n x : ℕ) (ys : List ℕ) → Row links (x ∷ ys) → 0 < times x ys → ((j : ℕ) → 0 < times j ys → 0 < c j) → Distinct n ys
      → Named n (up_to links c x ys)
  named_up_to n x ys r h w d = record {
    some = up_to_some x ys h;
    loop = closes x ys r h;
    waits = λ j p. w j (omega (arith, up_to_times x j ys));
    distinct = record { once = λ j. omega (arith, up_to_times x j ys, d.once j); under = λ j l. omega (arith, up_to_times x j ys, d.under j l) };
  }

  module _ (n : ℕ) (inside : (j : ℕ) → 0 < c j → j < n)
      (back : (x : ℕ) → 0 < c x → Linked links (waiting_before links c links x) x × (0 < c (waiting_before links c links x))) where
    go_back_named : (f x : ℕ) (seen : List ℕ) → Row links (x ∷ seen) → 0 < c x → ((j : ℕ) → 0 < times j seen → 0 < c j)
        → Distinct n seen → n ≤ f + length seen → Named n (go_back links c f x seen)
    unfolding go_back
    go_back_named zero x seen r p w d l =
        ⊎_elim (λ h. named_up_to n x seen r h w d) (λ z. absurd (omega (arith, distinct_le (distinct_cons (inside x p) (omega arith) d))))
        (lt_or_le 0 (times x seen))
    go_back_named (suc f) x seen r p w d l =
        ⊎_elim (λ m. rw (m.0, go_back) (named_up_to n x seen r m.1 w d))
        (λ m.
        let b = back x p in
        rw (m.0, go_back)
        (go_back_named f (waiting_before links c links x) (x ∷ seen) (b.0, r) b.1
        (λ j h. ⊎_elim (λ e. omega (arith, ap c e.0)) (λ e. w j (omega (arith, times_cons j x seen))) (same_cases j x))
        (distinct_cons (inside x p) m.1 d) (omega arith))) (member_times links c x seen)

-- ---- of any links

module _ {links : List Link} {n : ℕ} (range : Ranged links n) where
  -- what waits has a predecessor that waits, and the first is found
  pub drained_back : (x : ℕ) → 0 < (drained links n).count x
      → Linked links (waiting_before links (drained links n).count links x) x × (0 < (drained links n).count (waiting_before links (drained links n).count links x))
  drained_back x p =
      let k : Kept links n (drained links n).count [] (drained links n).out = drained_kept links n range in
      let s = pending_source (drained links n).out links x (omega (arith, k.waits x)) in
      waiting_before_linked links (drained links n).count links x s.0 s.1
      (omega (arith, s.2, out_or_waits k s.0 (linked_from_lem range (sent_linked links s.0 x s.1))))

  -- the first activity that waits, where one does
  pub first_waits : length (drained links n).out < n → First links (drained links n).count n 0 (first_waiting links (drained links n).count n 0)
  first_waits l =
      let w = one_waits (drained_kept links n range) l in
      first_waiting_first links (drained links n).count n 0 w.0 (omega arith) (omega arith) w.2

  pub drained_named : length (drained links n).out < n
      → Named links (drained links n).count n (go_back links (drained links n).count n (first_waiting links (drained links n).count n 0) [])
  drained_named l =
      go_back_named links (drained links n).count n (waits_below (drained_kept links n range)) drained_back n (first_waiting links (drained links n).count n 0) []
      tt (first_waits l).waits (λ j h. absurd (omega (arith, times_nil j))) (distinct_nil n) (omega arith)
