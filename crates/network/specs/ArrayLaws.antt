-- An array read from its front and from its end: stores, and one more.
use Rattle.std.specs.Prelude.{◌≡◌, ◌≢◌, length, get_or}
use Rattle.std.proofs.Math.Path.{refl, sym, ap, ap₂}
use Rattle.std.proofs.Common.{◌∙◌, add-one}
use Rattle.std.proofs.Math.Logic.{⊎_elim}
use mathlib.Core.List.{List, [], ◌∷◌, ◌++◌, reverse, reverse-cons}
use Prim.Native.Nat.{ℕ, zero, suc, ◌+◌, ◌-◌, ◌≤◌, ◌<◌}
use native.Mathlib.Omega.{arith}
use Rattle.number.specs.Order.{eq_or_ne}
use Rattle.network.specs.Times.{same_eq, times, times_nil, times_cons}
use Rattle.network.specs.Array.{out_of, span}

module _ (order : ℕ → ℕ) where
  pub out_of_nil : out_of order 0 ≡ []
  unfolding out_of
  out_of_nil = refl

  pub out_of_suc : (h : ℕ) → out_of order (suc h) ≡ order h ∷ out_of order h
  unfolding out_of
  out_of_suc h = refl

  pub out_of_one : (h : ℕ) → out_of order (h + 1) ≡ order h ∷ out_of order h
  out_of_one h = rw (add-one h) (out_of_suc h)

  pub length_out_of : (h : ℕ) → length (out_of order h) ≡ h
  unfolding out_of
  length_out_of zero = refl
  length_out_of (suc h) = ap suc (length_out_of h)

  pub length_span : (h m : ℕ) → length (span order h m) ≡ m
  unfolding span
  length_span h zero = refl
  length_span h (suc m) = ap suc (length_span (suc h) m)

  pub span_at : (h m p : ℕ) → p < m → get_or (span order h m) p 0 ≡ order (h + p)
  unfolding span
  span_at h zero p l = absurd (omega arith)
  span_at h (suc m) zero l = ap order (omega arith)
  span_at h (suc m) (suc p) l = span_at (suc h) m p (omega arith) ∙ ap order (omega arith)

  pub span_suc : (h m : ℕ) → span order h (suc m) ≡ span order h m ++ (order (h + m) ∷ [])
  unfolding span
  span_suc h zero = ap (λ (x : ℕ). order x ∷ []) (omega arith)
  span_suc h (suc m) =
      let e : suc h + m ≡ h + suc m = omega arith in
      ap (λ (l : List ℕ). order h ∷ l) (span_suc (suc h) m) ∙ ap (λ (x : ℕ). order h ∷ (span order (suc h) m ++ (order x ∷ []))) e

  -- the queue's front, and the rest
  pub span_front : (h t : ℕ) → h < t → span order h (t - h) ≡ order h ∷ span order (h + 1) (t - (h + 1))
  unfolding span
  span_front h t l =
      let e : t - h ≡ suc (t - (h + 1)) = omega arith in
      ap (span order h) e ∙ ap (λ (x : ℕ). order h ∷ span order x (t - (h + 1))) (sym (add-one h))

  pub span_empty : (h t : ℕ) → t ≤ h → span order h (t - h) ≡ []
  unfolding span
  span_empty h t l = let e : t - h ≡ 0 = omega arith in ap (span order h) e

  -- what is out and what is queued stand in one array
  pub out_of_span : (x h m : ℕ) → times x (out_of order h) + times x (span order h m) ≡ times x (out_of order (h + m))
  unfolding out_of span
  out_of_span x h zero = omega (arith, times_nil x, ap (λ (k : ℕ). times x (out_of order k)) (plus_zero h))
    where
      plus_zero : (h : ℕ) → h + 0 ≡ h
      plus_zero h = omega arith
  out_of_span x h (suc m) =
      let e : suc h + m ≡ h + suc m = omega arith in
      omega (arith, out_of_span x (suc h) m, ap (λ (k : ℕ). times x (out_of order k)) e, times_cons x (order h) (out_of order h), times_cons x (order h) (span order (suc h) m))

  pub out_of_queue : (x h t : ℕ) → h ≤ t → times x (out_of order h) + times x (span order h (t - h)) ≡ times x (out_of order t)
  out_of_queue x h t l =
      let e : h + (t - h) ≡ t = omega arith in out_of_span x h (t - h) ∙ ap (λ (k : ℕ). times x (out_of order k)) e

  pub out_of_times : (h p : ℕ) → p < h → 0 < times (order p) (out_of order h)
  unfolding out_of
  out_of_times zero p l = absurd (omega arith)
  out_of_times (suc h) p l =
      ⊎_elim (λ (e : p ≡ h). omega (arith, times_cons (order p) (order h) (out_of order h), same_eq (ap order e)))
      (λ (e : p ≢ h). omega (arith, times_cons (order p) (order h) (out_of order h), out_of_times h p (omega arith))) (eq_or_ne p h)

  -- read from the front
  pub reverse_out_of : (t : ℕ) → reverse (out_of order t) ≡ span order 0 t
  unfolding out_of span
  reverse_out_of zero = refl
  reverse_out_of (suc t) =
      reverse-cons (order t) (out_of order t) ∙ ap (λ (l : List ℕ). l ++ (order t ∷ [])) (reverse_out_of t)
      ∙ ap (λ (x : ℕ). span order 0 t ++ (order x ∷ [])) (zero_plus t) ∙ sym (span_suc 0 t)
    where
      zero_plus : (t : ℕ) → t ≡ 0 + t
      zero_plus t = omega arith

module _ (f g : ℕ → ℕ) where
  pub out_of_agree : (h : ℕ) → ((p : ℕ) → p < h → f p ≡ g p) → out_of f h ≡ out_of g h
  unfolding out_of
  out_of_agree zero a = refl
  out_of_agree (suc h) a = ap₂ ◌∷◌ (a h (omega arith)) (out_of_agree h (λ p l. a p (omega arith)))

  pub span_agree : (h m : ℕ) → ((p : ℕ) → h ≤ p → p < h + m → f p ≡ g p) → span f h m ≡ span g h m
  unfolding span
  span_agree h zero a = refl
  span_agree h (suc m) a = ap₂ ◌∷◌ (a h (omega arith) (omega arith)) (span_agree (suc h) m (λ p l k. a p (omega arith) (omega arith)))

  -- j is put at the end of the queue
  module _ (h t : ℕ) (w : h ≤ t) (old : (p : ℕ) → p < t → f p ≡ g p) where
    pub span_push : span f h (t + 1 - h) ≡ span g h (t - h) ++ (f t ∷ [])
    span_push =
        let e : t + 1 - h ≡ suc (t - h) = omega arith in
        let s : h + (t - h) ≡ t = omega arith in
        ap (span f h) e ∙ span_suc f h (t - h) ∙ ap₂ (λ (l : List ℕ) (x : ℕ). l ++ (f x ∷ [])) (span_agree h (t - h) (λ p l k. old p (omega arith))) s

    pub out_of_push : out_of f (t + 1) ≡ f t ∷ out_of g t
    out_of_push = out_of_one f t ∙ ap (λ (l : List ℕ). f t ∷ l) (out_of_agree t old)
