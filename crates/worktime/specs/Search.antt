-- Laws of the four searches minute by minute, by counts: what each finds, and where it finds nothing.
use Rattle.std.specs.Prelude.{◌≡◌, Bool, true, false, ℕ, zero, suc, ◌+◌, ◌-◌, ◌≤◌, ◌<◌, Ok, Err}
use Rattle.worktime.specs.declared.ClockError.TheVariants.{TooLong}
use Rattle.std.proofs.Math.Path.{refl}
use Rattle.std.proofs.Common.{sym, ap, ◌∙◌, true≢false, ⊎_elim, arith}
use Rattle.number.specs.Order.{cases, lt_or_le, zero_or_pos}
use Rattle.worktime.specs.Worked.{count, closing}
use Rattle.worktime.specs.Walks.{least, greatest, forward, backward}
use Rattle.worktime.specs.Count.{count_worked, count_idle, count_mono, count_lt, count_zero, count_before_worked, count_before_idle, closing_suc, closing_before, close_lt, start_unique, close_unique}

module _ (w : ℕ → Bool) where
  -- two minutes of which one is worked differ
  other : {u t : ℕ} → w u ≡ true → w t ≡ false → u ≡ t → ⊥
  other h e p = true≢false (sym h ∙ ap w p ∙ e)

  -- ---- the least worked minute

  least_worked : (n t : ℕ) → w t ≡ true → least w (suc n) t ≡ Ok t
  unfolding least
  least_worked n t e = rw (e, least)

  least_idle : (n t : ℕ) → w t ≡ false → least w (suc n) t ≡ least w n (suc t)
  unfolding least
  least_idle n t e = rw (e, least)

  least_zero : (t : ℕ) → least w 0 t ≡ Err TooLong
  unfolding least
  least_zero t = refl

  pub least_at : (n t u : ℕ) → t ≤ u → u < t + n → w u ≡ true → count w u ≡ count w t → least w n t ≡ Ok u
  least_at zero t u a b h c = absurd (omega arith)
  least_at (suc n) t u a b h c =
      ⊎_elim (λ e. least_worked n t e ∙ ap Ok (start_unique w e h (sym c)))
      (λ e.
      least_idle n t e
      ∙ least_at n (suc t) u (⊎_elim (λ g. g) (λ g. absurd (other h e (omega arith))) (lt_or_le t u)) (omega arith) h
      (c ∙ sym (count_idle w t e))) (cases (w t))

  pub least_none : (n t : ℕ) → count w (t + n) ≤ count w t → least w n t ≡ Err TooLong
  least_none zero t c = least_zero t
  least_none (suc n) t c =
      let e : t + suc n ≡ suc t + n = omega arith in
      ⊎_elim (λ h. absurd (let l = count_lt w {t = t + suc n} h (omega arith) in omega arith))
      (λ h. least_idle n t h ∙ least_none n (suc t) (omega (arith, ap (count w) e, count_idle w t h))) (cases (w t))

  -- ---- the greatest closing minute

  greatest_closing : (n t : ℕ) → closing w t ≡ true → greatest w (suc n) t ≡ Ok t
  unfolding greatest
  greatest_closing n t e = rw (e, greatest)

  greatest_else : (n t : ℕ) → closing w t ≡ false → greatest w (suc n) t ≡ greatest w n (t - 1)
  unfolding greatest
  greatest_else n t e = rw (e, greatest)

  greatest_zero : (t : ℕ) → greatest w 0 t ≡ Err TooLong
  unfolding greatest
  greatest_zero t = refl

  count_else : (t : ℕ) → 0 < t → closing w t ≡ false → count w t ≡ count w (t - 1)
  count_else t p e = count_before_idle w t p (sym (closing_before w t p) ∙ e)

  pub greatest_at : (n t u : ℕ) → u ≤ t → t < u + n → closing w u ≡ true → count w u ≡ count w t → greatest w n t ≡ Ok u
  greatest_at zero t u a b h c = absurd (omega arith)
  greatest_at (suc n) t u a b h c =
      ⊎_elim (λ e. greatest_closing n t e ∙ ap Ok (close_unique w e h (sym c)))
      (λ e.
      let l = strict e in
      greatest_else n t e ∙ greatest_at n (t - 1) u (omega arith) (omega arith) h (c ∙ count_else t (omega arith) e)) (cases (closing w t))
    where
      same : t ≤ u → u ≡ t
      same g = omega arith

      strict : closing w t ≡ false → u < t
      strict e = ⊎_elim (λ g. g) (λ g. absurd (true≢false (sym h ∙ ap (closing w) (same g) ∙ e))) (lt_or_le u t)

  pub greatest_none : (n t : ℕ) → n ≤ t → count w t ≤ count w (t - n) → greatest w n t ≡ Err TooLong
  greatest_none zero t l c = greatest_zero t
  greatest_none (suc n) t l c =
      let e : t - suc n ≡ t - 1 - n = omega arith in
      ⊎_elim (λ h. absurd (let x = close_lt w {t = t - suc n} h (omega arith) in omega arith))
      (λ h. greatest_else n t h ∙ greatest_none n (t - 1) (omega arith) (omega (arith, ap (count w) e, count_else t (omega arith) h)))
      (cases (closing w t))

  -- ---- n worked minutes forward

  forward_worked : (f t n : ℕ) → w t ≡ true → forward w (suc f) t (suc n) ≡ forward w f (suc t) n
  unfolding forward
  forward_worked f t n e = rw (e, forward)

  forward_idle : (f t n : ℕ) → w t ≡ false → forward w (suc f) t (suc n) ≡ forward w f (suc t) (suc n)
  unfolding forward
  forward_idle f t n e = rw (e, forward)

  forward_end : (t n : ℕ) → forward w 0 t (suc n) ≡ Err TooLong
  unfolding forward
  forward_end t n = refl

  pub forward_zero : (f t : ℕ) → forward w f t 0 ≡ Ok t
  unfolding forward
  forward_zero f t = refl

  pub forward_at : (f t n u : ℕ) → 0 < n → closing w u ≡ true → count w u ≡ count w t + n → u ≤ t + f → forward w f t n ≡ Ok u
  forward_at f t zero u p h c l = absurd (omega arith)
  forward_at zero t (suc n) u p h c l = absurd (let x = count_mono w {s = u} {t = t} (omega arith) in omega arith)
  forward_at (suc f) t (suc n) u p h c l =
      ⊎_elim
      (λ e.
      let c' : count w u ≡ count w (suc t) + n = omega (arith, count_worked w t e) in
      forward_worked f t n e
      ∙ ⊎_elim
      (λ z. ap (forward w f (suc t)) z ∙ forward_zero f (suc t) ∙ ap Ok (close_unique w (closing_suc w t ∙ e) h (omega arith)))
      (λ q. forward_at f (suc t) n u q h c' (omega arith)) (zero_or_pos n))
      (λ e. forward_idle f t n e ∙ forward_at f (suc t) (suc n) u p h (omega (arith, count_idle w t e)) (omega arith)) (cases (w t))

  pub forward_none : (f t n : ℕ) → count w (t + f) < count w t + n → forward w f t n ≡ Err TooLong
  forward_none f t zero c = absurd (let x = count_mono w {s = t} {t = t + f} (omega arith) in omega arith)
  forward_none zero t (suc n) c = forward_end t n
  forward_none (suc f) t (suc n) c =
      let e : t + suc f ≡ suc t + f = omega arith in
      ⊎_elim (λ h. forward_worked f t n h ∙ forward_none f (suc t) n (omega (arith, ap (count w) e, count_worked w t h)))
      (λ h. forward_idle f t n h ∙ forward_none f (suc t) (suc n) (omega (arith, ap (count w) e, count_idle w t h))) (cases (w t))

  -- ---- n worked minutes back

  backward_worked : (f t n : ℕ) → w (t - 1) ≡ true → backward w (suc f) t (suc n) ≡ backward w f (t - 1) n
  unfolding backward
  backward_worked f t n e = rw (e, backward)

  backward_idle : (f t n : ℕ) → w (t - 1) ≡ false → backward w (suc f) t (suc n) ≡ backward w f (t - 1) (suc n)
  unfolding backward
  backward_idle f t n e = rw (e, backward)

  backward_end : (t n : ℕ) → backward w 0 t (suc n) ≡ Err TooLong
  unfolding backward
  backward_end t n = refl

  pub backward_zero : (f t : ℕ) → backward w f t 0 ≡ Ok t
  unfolding backward
  backward_zero f t = refl

  pub backward_at : (f t n u : ℕ) → 0 < n → w u ≡ true → count w u + n ≡ count w t → t ≤ u + f → backward w f t n ≡ Ok u
  backward_at f t zero u p h c l = absurd (omega arith)
  backward_at zero t (suc n) u p h c l = absurd (let x = count_mono w {s = t} {t = u} (omega arith) in omega arith)
  backward_at (suc f) t (suc n) u p h c l =
      ⊎_elim
      (λ e.
      let c' : count w u + n ≡ count w (t - 1) = omega (arith, count_before_worked w t some e) in
      backward_worked f t n e
      ∙ ⊎_elim (λ z. ap (backward w f (t - 1)) z ∙ backward_zero f (t - 1) ∙ ap Ok (start_unique w e h (omega arith)))
      (λ q. backward_at f (t - 1) n u q h c' (omega (arith, some))) (zero_or_pos n))
      (λ e.
      backward_idle f t n e
      ∙ backward_at f (t - 1) (suc n) u p h (omega (arith, count_before_idle w t some e)) (omega (arith, some))) (cases (w (t - 1)))
    where
      some : 0 < t
      some = ⊎_elim (λ z. absurd (omega (arith, count_zero w, ap (count w) z))) (λ q. q) (zero_or_pos t)

  pub backward_none : (f t n : ℕ) → f ≤ t → count w t < count w (t - f) + n → backward w f t n ≡ Err TooLong
  backward_none f t zero l c = absurd (let x = count_mono w {s = t - f} {t = t} (omega arith) in omega arith)
  backward_none zero t (suc n) l c = backward_end t n
  backward_none (suc f) t (suc n) l c =
      let e : t - suc f ≡ t - 1 - f = omega arith in
      ⊎_elim
      (λ h. backward_worked f t n h ∙ backward_none f (t - 1) n (omega arith) (omega (arith, ap (count w) e, count_before_worked w t (omega arith) h)))
      (λ h. backward_idle f t n h ∙ backward_none f (t - 1) (suc n) (omega arith) (omega (arith, ap (count w) e, count_before_idle w t (omega arith) h)))
      (cases (w (t - 1)))
