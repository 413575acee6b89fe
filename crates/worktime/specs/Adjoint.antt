-- Advance and retreat undo each other, and a time bounds a start or a finish just as its next start or next finish does.
use Rattle.std.specs.Prelude.{◌≡◌, Bool, true, false, not, ◌↔◌, ℕ, ◌+◌, ◌≤◌, ◌<◌}
use Rattle.std.proofs.Common.{sym, ◌∙◌, true≢false, ⊎_elim, le_antisymm, arith}
use Rattle.std.proofs.Math.Path.{ap}
use Rattle.number.specs.Order.{cases, lt_or_le}
use Rattle.worktime.specs.Worked.{count, closing, IsNextStart, IsPreviousFinish, IsNextFinish, IsAdvance, IsRetreat}
use Rattle.number.specs.Bit.{bit}
use Rattle.worktime.specs.Count.{count_mono, start_le, close_le, close_lt}
use Rattle.worktime.specs.Relations.{next_start_of, previous_finish_of, next_finish_count, advance_of, advance_le, retreat_of, retreat_le}

-- the worked minutes below the first closing minute at or after b
unfoldable pub ceil : (ℕ → Bool) → ℕ → ℕ
ceil w b = count w b + bit (not (closing w b))

module _ (w : ℕ → Bool) where
  -- ---- there and back

  -- back from where an advance came to: the start that the advance counted from
  pub retreat_advance : {t n u v : ℕ} → 0 < n → IsAdvance w t n u → IsRetreat w u n v → IsNextStart w t v
  retreat_advance p a b = next_start_of w (b.worked p) (omega arith)

  -- forward again from where a retreat came to: the finish that the retreat counted from
  pub advance_retreat : {t n u v : ℕ} → 0 < n → IsRetreat w t n u → IsAdvance w u n v → IsPreviousFinish w t v
  advance_retreat p a b = previous_finish_of w (b.closes p) (omega arith)

  -- work from a start to a finish is the same counted from either
  pub advance_iff_retreat : {s n f : ℕ} → 0 < n → w s ≡ true → closing w f ≡ true → IsAdvance w s n f ↔ IsRetreat w f n s
  advance_iff_retreat p hs hf = (λ a. retreat_of w p hs (omega (arith, a.total)), λ b. advance_of w p hf (omega (arith, b.total)))

  -- advance and retreat are adjoint
  pub adjoint : {s f n a r : ℕ} → 0 < n → IsAdvance w s n a → IsRetreat w f n r → (a ≤ f) ↔ (s ≤ r)
  adjoint {s} {f} p a b =
      let x = advance_le w {v = f} p a in
      let y = retreat_le w {v = s} p b in
      (λ l. y.1 (x.0 l), λ l. x.1 (y.0 l))

  -- ---- bounds

  -- a start is at or after b just where it is at or after b's next start
  pub start_galois : {b s c : ℕ} → w s ≡ true → IsNextStart w b c → (b ≤ s) ↔ (c ≤ s)
  start_galois h n = (λ l. n.least _ l h, λ l. omega (arith, n.after))

  -- a finish is at or before b just where it is at or before b's previous finish
  pub end_galois : {b f c : ℕ} → closing w f ≡ true → IsPreviousFinish w b c → (f ≤ b) ↔ (f ≤ c)
  end_galois h n = (λ l. n.greatest _ l h, λ l. omega (arith, n.before))

  -- as much is worked up to a finish as up to b just where its start is at or after that of as much work to b's next finish
  pub finish_galois : {s n f b c r : ℕ} → w s ≡ true → 0 < n → IsAdvance w s n f → IsNextFinish w b c → IsRetreat w c n r
      → (count w b ≤ count w f) ↔ (r ≤ s)
  finish_galois h p a x y = (
    λ l. (start_le w h).1 (omega (arith, next_finish_count w x)),
    λ l. omega (arith, next_finish_count w x, count_mono w l),
  )

  -- ---- closing minutes from below

  pub ceil_closing : (b : ℕ) → closing w b ≡ true → ceil w b ≡ count w b
  unfolding ceil
  ceil_closing b e = omega (arith, ap (λ x. bit (not x)) e)

  pub ceil_else : (b : ℕ) → closing w b ≡ false → ceil w b ≡ count w b + 1
  unfolding ceil
  ceil_else b e = omega (arith, ap (λ x. bit (not x)) e)

  pub ceil_range : (b : ℕ) → (count w b ≤ ceil w b) × (ceil w b ≤ count w b + 1)
  ceil_range b = ⊎_elim (λ e. omega (arith, ceil_closing b e)) (λ e. omega (arith, ceil_else b e)) (cases (closing w b))

  pub close_ge : {b y : ℕ} → closing w y ≡ true → (b ≤ y) ↔ (ceil w b ≤ count w y)
  close_ge {b} {y} h = ⊎_elim closed idle (cases (closing w b))
    where
      closed : closing w b ≡ true → (b ≤ y) ↔ (ceil w b ≤ count w y)
      closed e = (λ l. omega (arith, ceil_closing b e, count_mono w l), λ c. (close_le w e).1 (omega (arith, ceil_closing b e)))

      strict : closing w b ≡ false → b ≤ y → b < y
      strict e l = ⊎_elim (λ g. g) (λ g. absurd (true≢false (sym h ∙ ap (closing w) (le_antisymm g l) ∙ e))) (lt_or_le b y)

      idle : closing w b ≡ false → (b ≤ y) ↔ (ceil w b ≤ count w y)
      idle e = (
        λ l. omega (arith, ceil_else b e, close_lt w h (strict e l)),
        λ c. ⊎_elim (λ l. omega (arith, ceil_else b e, count_mono w {s = y} {t = b} (omega arith))) (λ l. l) (lt_or_le y b),
      )

  pub ceil_mono : {b c : ℕ} → b ≤ c → ceil w b ≤ ceil w c
  ceil_mono {b} {c} l = ⊎_elim closed (λ e. omega (arith, ceil_else c e, ceil_range b, count_mono w l)) (cases (closing w c))
    where
      closed : closing w c ≡ true → ceil w b ≤ ceil w c
      closed e = omega (arith, ceil_closing c e, (close_ge {b = b} {y = c} e).0 l)
