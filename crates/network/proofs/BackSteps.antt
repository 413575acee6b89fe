-- The way back as loops run it: the first that waits by a scan, the first waiting predecessor along the links into it, and what was passed in an array.
use Rattle.std.specs.Prelude.{◌≡◌, ◌≢◌}
use Rattle.std.proofs.Math.Path.{refl, sym, ap, ap₂}
use Rattle.std.proofs.Common.{◌∙◌, add-one}
use Rattle.std.proofs.Math.Logic.{⊎_elim}
use mathlib.Core.List.{List, [], ◌∷◌}
use Prim.Native.Nat.{ℕ, zero, suc, ◌+◌, ◌-◌, ◌<◌}
use native.Mathlib.Omega.{arith}
use borrow.Author.Tests.{eq-eqb, ne_eqb}
use Rattle.std.proofs.Math.ListN.{length, get_or}
use Rattle.number.specs.Order.{eq_or_ne, zero_or_pos}
use Rattle.network.specs.Links.{Link}
use Rattle.network.specs.Kahn.{first_waiting, waiting_before, up_to, go_back}
use Rattle.network.specs.Times.{times}
use Rattle.network.specs.Outgoing.{sources, waiting_in}
use Rattle.network.specs.OutgoingLaws.{sources_hit, sources_miss}
use Rattle.network.proofs.GoingBack.{first_waiting_skip, first_waiting_here, waiting_before_here, waiting_before_other, waiting_before_out, member_times, up_to_here, up_to_on}
use Rattle.network.specs.Array.{out_of}

-- ---- the first of a row that waits

module _ (c : ℕ → ℕ) (x : ℕ) where
  pub waiting_in_skip : (y : ℕ) (ys : List ℕ) → c y ≡ 0 → waiting_in c (y ∷ ys) x ≡ waiting_in c ys x
  unfolding waiting_in
  waiting_in_skip y ys e = simp (waiting_in, eq-eqb (c y) 0 e)

  pub waiting_in_here : (y : ℕ) (ys : List ℕ) → 0 < c y → waiting_in c (y ∷ ys) x ≡ y
  unfolding waiting_in
  waiting_in_here y ys p = simp (waiting_in, ne_eqb (c y) 0 (λ e. omega arith))

  pub waiting_in_none : waiting_in c [] x ≡ x
  unfolding waiting_in
  waiting_in_none = refl

  -- the first waiting predecessor is the first of the links into x in rising order
  pub waiting_before_sources : (links ls : List Link) → waiting_before links c ls x ≡ waiting_in c (sources ls x) x
  unfolding waiting_before waiting_in sources
  waiting_before_sources links [] = refl
  waiting_before_sources links (l ∷ ls) =
      ⊎_elim
      (λ (t : l.to ≡ x).
      ⊎_elim
      (λ (z : c l.from ≡ 0).
      waiting_before_out links c l ls x t z ∙ waiting_before_sources links ls ∙ sym (ap (λ (ys : List ℕ). waiting_in c ys x) (sources_hit l ls x t) ∙ waiting_in_skip l.from (sources ls x) z))
      (λ (z : 0 < c l.from).
      waiting_before_here links c l ls x t z ∙ sym (ap (λ (ys : List ℕ). waiting_in c ys x) (sources_hit l ls x t) ∙ waiting_in_here l.from (sources ls x) z))
      (zero_or_pos (c l.from)))
      (λ (t : l.to ≢ x).
      waiting_before_other links c l ls x t ∙ waiting_before_sources links ls ∙ sym (ap (λ (ys : List ℕ). waiting_in c ys x) (sources_miss l ls x t)))
      (eq_or_ne l.to x)

module _ (links : List Link) (c : ℕ → ℕ) where
  -- ---- the first of n that waits, from i on

  pub first_skip : (n i : ℕ) → i < n → c i ≡ 0 → first_waiting links c (n - i) i ≡ first_waiting links c (n - (i + 1)) (i + 1)
  first_skip n i l z =
      let e : n - i ≡ suc (n - (i + 1)) = omega arith in
      ap (λ (k : ℕ). first_waiting links c k i) e ∙ first_waiting_skip links c (n - (i + 1)) i z ∙ ap (first_waiting links c (n - (i + 1))) (sym (add-one i))

  pub first_here : (n i : ℕ) → i < n → 0 < c i → first_waiting links c (n - i) i ≡ i
  first_here n i l p =
      let e : n - i ≡ suc (n - (i + 1)) = omega arith in ap (λ (k : ℕ). first_waiting links c k i) e ∙ first_waiting_here links c (n - (i + 1)) i p

  -- ---- one step back

  pub go_back_again : (f x : ℕ) (seen : List ℕ) → 0 < times x seen → go_back links c f x seen ≡ up_to links c x seen
  unfolding go_back
  go_back_again zero x seen p = refl
  go_back_again (suc f) x seen p = ⊎_elim (λ m. rw (m.0, go_back)) (λ m. absurd (omega arith)) (member_times links c x seen)

  pub go_back_on : (f x : ℕ) (seen : List ℕ) → times x seen ≡ 0 → go_back links c (suc f) x seen ≡ go_back links c f (waiting_before links c links x) (x ∷ seen)
  unfolding go_back
  go_back_on f x seen z = ⊎_elim (λ m. absurd (omega arith)) (λ m. rw (m.0, go_back)) (member_times links c x seen)

  -- ---- what was passed, in an array

  -- the row up to x of what was passed, where x stands last at p
  pub up_to_length : (path : ℕ → ℕ) (x p m : ℕ) → p < m → path p ≡ x → ((q : ℕ) → p < q → q < m → path q ≢ x) → length (up_to links c x (out_of path m)) ≡ m - p
  unfolding out_of
  up_to_length path x p zero l e a = absurd (omega arith)
  up_to_length path x p (suc m) l e a =
      ⊎_elim
      (λ (q : p ≡ m). let h : x ≡ path m = sym e ∙ ap path q in omega (arith, ap length (up_to_here links c x (path m) (out_of path m) h)))
      (λ (q : p ≢ m).
      let h : x ≢ path m = λ w. a m (omega arith) (omega arith) (sym w) in
      omega (arith, ap length (up_to_on links c x (path m) (out_of path m) h), up_to_length path x p m (omega arith) e (λ k b d. a k b (omega arith))))
      (eq_or_ne p m)

  pub up_to_at : (path : ℕ → ℕ) (x p m : ℕ) → p < m → path p ≡ x → ((q : ℕ) → p < q → q < m → path q ≢ x)
      → (k : ℕ) → k < m - p → get_or (up_to links c x (out_of path m)) k 0 ≡ path (m - 1 - k)
  unfolding out_of
  up_to_at path x p zero l e a k b = absurd (omega arith)
  up_to_at path x p (suc m) l e a k b =
      ⊎_elim
      (λ (q : p ≡ m).
      let h : x ≡ path m = sym e ∙ ap path q in
      let z : k ≡ 0 = omega arith in
      ap₂ (λ (xs : List ℕ) (i : ℕ). get_or xs i 0) (up_to_here links c x (path m) (out_of path m) h) z ∙ ap path (omega arith))
      (λ (q : p ≢ m).
      let h : x ≢ path m = λ w. a m (omega arith) (omega arith) (sym w) in
      ap (λ (xs : List ℕ). get_or xs k 0) (up_to_on links c x (path m) (out_of path m) h)
      ∙ on k b (up_to links c x (out_of path m)) (up_to_at path x p m (omega arith) e (λ i f d. a i f (omega arith)))) (eq_or_ne p m)
    where
      on : (k : ℕ) → k < suc m - p → (xs : List ℕ) → ((i : ℕ) → i < m - p → get_or xs i 0 ≡ path (m - 1 - i)) → get_or (path m ∷ xs) k 0 ≡ path (suc m - 1 - k)
      on zero b xs r = ap path (omega arith)
      on (suc k) b xs r = r k (omega arith) ∙ ap path (omega arith)
