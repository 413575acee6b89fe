-- Laws of the count of worked minutes, over any set `w` of them: what counts say of the order of minutes.
use Rattle.std.specs.Prelude.{◌≡◌, Bool, true, false, ◌↔◌, ℕ, zero, suc, ◌+◌, ◌-◌, ◌≤◌, ◌<◌}
use Rattle.std.proofs.Math.Path.{refl}
use Rattle.std.proofs.Common.{sym, ap, ◌∙◌, true≢false, ⊎_elim, le_antisymm, add-suc, add-zero, arith, add-one}
use Rattle.std.proofs.Math.Decide.{le_ind}
use Rattle.number.specs.Order.{cases, lt_or_le}
use Rattle.worktime.specs.Worked.{count, closing}
use Rattle.number.specs.Bit.{bit}
use Rattle.number.specs.BitLaws.{bit_le}
use Rattle.worktime.specs.Walks.{spanned}

module _ (w : ℕ → Bool) where
  -- ---- one minute more

  pub count_zero : count w 0 ≡ 0
  unfolding count
  count_zero = refl

  pub count_suc : (t : ℕ) → count w (suc t) ≡ count w t + bit (w t)
  unfolding count
  count_suc t = refl

  pub count_worked : (t : ℕ) → w t ≡ true → count w (suc t) ≡ count w t + 1
  count_worked t h = omega (arith, count_suc t, ap bit h)

  pub count_idle : (t : ℕ) → w t ≡ false → count w (suc t) ≡ count w t
  count_idle t h = omega (arith, count_suc t, ap bit h)

  pub count_step : (t : ℕ) → (count w t ≤ count w (suc t)) × (count w (suc t) ≤ count w t + 1)
  count_step t = omega (arith, count_suc t, bit_le (w t))

  -- the same as a loop counts, at t + 1
  pub count_suc_one : (t : ℕ) → count w (t + 1) ≡ count w t + bit (w t)
  count_suc_one t = rw (add-one t) (count_suc t)

  pub count_worked_one : (t : ℕ) → w t ≡ true → count w (t + 1) ≡ count w t + 1
  count_worked_one t h = rw (add-one t) (count_worked t h)

  pub count_idle_one : (t : ℕ) → w t ≡ false → count w (t + 1) ≡ count w t
  count_idle_one t h = rw (add-one t) (count_idle t h)

  pub count_step_one : (t : ℕ) → (count w t ≤ count w (t + 1)) × (count w (t + 1) ≤ count w t + 1)
  count_step_one t = rw (add-one t) (count_step t)

  -- and back, at t - 1
  pub count_before : (t : ℕ) → 0 < t → count w t ≡ count w (t - 1) + bit (w (t - 1))
  count_before zero p = absurd (omega arith)
  count_before (suc s) p = let e : suc s - 1 ≡ s = omega arith in rw e (count_suc s)

  pub count_before_worked : (t : ℕ) → 0 < t → w (t - 1) ≡ true → count w t ≡ count w (t - 1) + 1
  count_before_worked t p h = omega (arith, count_before t p, ap bit h)

  pub count_before_idle : (t : ℕ) → 0 < t → w (t - 1) ≡ false → count w t ≡ count w (t - 1)
  count_before_idle t p h = omega (arith, count_before t p, ap bit h)

  -- ---- order

  pub count_mono : {s t : ℕ} → s ≤ t → count w s ≤ count w t
  count_mono {s} {t} h = le_ind (λ (k : ℕ). count w s ≤ count w k) (omega arith) (λ m k e. omega (arith, count_step m)) t h

  pub count_lt : {s t : ℕ} → w s ≡ true → s < t → count w s < count w t
  count_lt {s} {t} h l = omega (arith, count_worked s h, count_mono l)

  pub count_le : (t : ℕ) → count w t ≤ t
  count_le zero = omega (arith, count_zero)
  count_le (suc t) = omega (arith, count_step t, count_le t)

  -- where more is counted it is later
  pub count_lt_lt : {s t : ℕ} → count w s < count w t → s < t
  count_lt_lt {s} {t} h = ⊎_elim (λ l. l) (λ l. omega (arith, count_mono l)) (lt_or_le s t)

  -- no more minutes are worked than pass
  pub count_pass : {s t : ℕ} → s ≤ t → count w t + s ≤ count w s + t
  count_pass {s} {t} h = le_ind (λ (k : ℕ). count w k + s ≤ count w s + k) (omega arith) (λ m k e. omega (arith, count_step m)) t h

  -- ---- closing minutes

  pub closing_zero : closing w 0 ≡ false
  unfolding closing
  closing_zero = refl

  pub closing_suc : (s : ℕ) → closing w (suc s) ≡ w s
  unfolding closing
  closing_suc s = refl

  pub closing_one : (s : ℕ) → closing w (s + 1) ≡ w s
  closing_one s = rw (add-one s) (closing_suc s)

  pub closing_before : (u : ℕ) → 0 < u → closing w u ≡ w (u - 1)
  closing_before zero p = absurd (omega arith)
  closing_before (suc s) p = let e : suc s - 1 ≡ s = omega arith in rw e (closing_suc s)

  pub closing_pred : (u : ℕ) → closing w u ≡ true → (s : ℕ) × (u ≡ suc s) × (w s ≡ true)
  closing_pred zero h = absurd (true≢false (sym h ∙ closing_zero))
  closing_pred (suc s) h = (s, refl, sym (closing_suc s) ∙ h)

  pub closing_pos : {u : ℕ} → closing w u ≡ true → 0 < u
  closing_pos {u} h = let p = closing_pred u h in omega arith

  -- ---- the two order laws, from which all others follow: counts order worked minutes from below, and closing ones from above

  pub start_le : {t u : ℕ} → w u ≡ true → (t ≤ u) ↔ (count w t ≤ count w u)
  start_le {t} {u} h = (λ l. count_mono l, λ c. ⊎_elim (λ l. omega (arith, count_lt h l)) (λ l. l) (lt_or_le u t))

  pub close_lt : {t u : ℕ} → closing w u ≡ true → t < u → count w t < count w u
  close_lt {t} {u} h l =
      let p = closing_pred u h in
      omega (arith, count_mono {s = t} {t = p.0} (omega arith), count_worked p.0 p.2, ap (count w) p.1)

  pub close_le : {t u : ℕ} → closing w u ≡ true → (u ≤ t) ↔ (count w u ≤ count w t)
  close_le {t} {u} h = (λ l. count_mono l, λ c. ⊎_elim (λ l. omega (arith, close_lt h l)) (λ l. l) (lt_or_le t u))

  pub start_unique : {u v : ℕ} → w u ≡ true → w v ≡ true → count w u ≡ count w v → u ≡ v
  start_unique hu hv e = le_antisymm ((start_le hv).1 (omega arith)) ((start_le hu).1 (omega arith))

  pub close_unique : {u v : ℕ} → closing w u ≡ true → closing w v ≡ true → count w u ≡ count w v → u ≡ v
  close_unique hu hv e = le_antisymm ((close_le hu).1 (omega arith)) ((close_le hv).1 (omega arith))

  -- ---- gaps

  -- a gap with no worked minute counts nothing
  pub gap : {t u : ℕ} → t ≤ u → ((m : ℕ) → t ≤ m → m < u → w m ≡ false) → count w u ≡ count w t
  gap {t} {u} l h =
      le_ind (λ (k : ℕ). k ≤ u → count w k ≡ count w t) (λ x. refl)
      (λ m k ih x. count_idle m (h m k x) ∙ ih (omega arith)) u l (omega arith)

  -- and a gap that counts nothing has no worked minute
  pub gap_idle : {t u : ℕ} → count w u ≤ count w t → (m : ℕ) → t ≤ m → m < u → w m ≡ false
  gap_idle {t} {u} c m a b =
      ⊎_elim (λ e. absurd (let x = count_mono a in let y = count_lt e b in omega arith)) (λ e. e) (cases (w m))

  -- ---- the worked minute with k before it, wherever more than k are counted
  pub reach : (t k : ℕ) → k < count w t → (u : ℕ) × (u < t) × (w u ≡ true) × (count w u ≡ k)
  reach zero k h = absurd (omega (arith, count_zero))
  reach (suc t) k h =
      ⊎_elim (λ l. let r = reach t k l in (r.0, omega arith, r.2, r.3))
      (λ l.
      ⊎_elim (λ e. (t, omega arith, e, omega (arith, count_worked t e))) (λ e. absurd (omega (arith, count_idle t e)))
      (cases (w t))) (lt_or_le k (count w t))

  -- ---- spans

  pub spanned_zero : (t : ℕ) → spanned w t 0 ≡ 0
  unfolding spanned
  spanned_zero t = refl

  pub spanned_suc : (t n : ℕ) → spanned w t (suc n) ≡ spanned w t n + bit (w (t + n))
  unfolding spanned
  spanned_suc t n = refl

  pub count_spanned : (t n : ℕ) → count w t + spanned w t n ≡ count w (t + n)
  count_spanned t zero = rw (add-zero t) (omega (arith, spanned_zero t))
  count_spanned t (suc n) = rw (add-suc t n) (omega (arith, spanned_suc t n, count_suc (t + n), count_spanned t n))

  pub spanned_count : (t n : ℕ) → spanned w t n ≡ count w (t + n) - count w t
  spanned_count t n = omega (arith, count_spanned t n)

  -- the minutes worked from t to u
  pub spanned_to : {t u : ℕ} → t ≤ u → spanned w t (u - t) ≡ count w u - count w t
  spanned_to {t} {u} l = let e : t + (u - t) ≡ u = omega arith in omega (arith, count_spanned t (u - t), ap (count w) e)

-- ---- counts of two sets

-- only what lies below t counts
pub count_ext : (w w' : ℕ → Bool) (t : ℕ) → ((u : ℕ) → u < t → w u ≡ w' u) → count w t ≡ count w' t
count_ext w w' zero h = omega (arith, count_zero w, count_zero w')
count_ext w w' (suc t) h =
    omega (arith, count_suc w t, count_suc w' t, ap bit (h t (omega arith)), count_ext w w' t (λ u l. h u (omega arith)))

-- counts add up
pub count_add : (w : ℕ → Bool) (a b : ℕ) → count w (a + b) ≡ count w a + count (λ x. w (a + x)) b
count_add w a zero = rw (add-zero a) (omega (arith, count_zero (λ x. w (a + x))))
count_add w a (suc b) = rw (add-suc a b) (omega (arith, count_suc w (a + b), count_suc (λ x. w (a + x)) b, count_add w a b))
