-- Which walks have an answer, where no limit of years is known.
use Rattle.std.specs.Prelude.{◌≡◌, refl, Bool, true, ℕ, zero, suc, ◌+◌, ◌-◌, ◌≤◌, ◌<◌}
use Rattle.std.proofs.Common.{◌∙◌, ⊎_elim, arith}
use Rattle.number.specs.Order.{cases}
use Rattle.worktime.specs.Worked.{count, closing, IsNextStart, IsPreviousFinish, IsNextFinish, IsAdvance, IsRetreat}
use Rattle.worktime.specs.Count.{count_zero, count_worked, count_mono, closing_suc, close_lt, closing_pos, start_le, reach}
use Rattle.worktime.specs.Relations.{next_start_of, previous_finish_of, previous_finish_count, next_finish_here, next_finish_later, advance_of, advance_by_zero, retreat_of, retreat_by_zero}

module _ (w : ℕ → Bool) where
  -- ---- next start: where some later minute is worked, or more is counted later

  pub next_start_below : (t h : ℕ) → count w t < count w h → (u : ℕ) × (u < h) × IsNextStart w t u
  next_start_below t h l = let r = reach w h (count w t) l in (r.0, r.1, next_start_of w r.2 r.3)

  pub next_start_exists : {t v : ℕ} → t ≤ v → w v ≡ true → (u : ℕ) × (u ≤ v) × IsNextStart w t u
  next_start_exists {t} {v} l h =
      let r = next_start_below t (suc v) (omega (arith, count_worked w v h, count_mono w l)) in (r.0, omega (arith, r.1), r.2)

  -- ---- previous finish: just where something is worked before

  pub previous_finish_exists : (t : ℕ) → 0 < count w t → (u : ℕ) × IsPreviousFinish w t u
  previous_finish_exists t p =
      let r = reach w t (count w t - 1) (omega arith) in
      (suc r.0, previous_finish_of w (closing_suc w r.0 ∙ r.2) (omega (arith, count_worked w r.0 r.2)))

  pub previous_finish_needs : {t u : ℕ} → IsPreviousFinish w t u → 0 < count w t
  previous_finish_needs s =
      let c = close_lt w s.closes (closing_pos w s.closes) in omega (arith, count_zero w, previous_finish_count w s)

  -- ---- next finish: as next start

  pub next_finish_exists : {t v : ℕ} → t ≤ v → w v ≡ true → (u : ℕ) × (u ≤ v) × IsNextFinish w t u
  next_finish_exists {t} {v} l h =
      ⊎_elim (λ e. (t, l, next_finish_here w e))
      (λ e. let r = next_start_exists l h in (r.0, r.1, next_finish_later w e r.2)) (cases (closing w t))

  -- ---- advance: where enough is counted later

  pub advance_exists : (t n h : ℕ) → t ≤ h → count w t + n ≤ count w h → (u : ℕ) × (u ≤ h) × IsAdvance w t n u
  advance_exists t zero h a l = (t, a, (advance_by_zero w).1 refl)
  advance_exists t (suc n) h a l =
      let r = reach w h (count w t + n) (omega arith) in
      (suc r.0, r.1, advance_of w (omega arith) (closing_suc w r.0 ∙ r.2) (omega (arith, count_worked w r.0 r.2)))

  -- ---- retreat: just where enough is counted

  pub retreat_exists : (t n : ℕ) → n ≤ count w t → (u : ℕ) × IsRetreat w t n u
  retreat_exists t zero l = (t, (retreat_by_zero w).1 refl)
  retreat_exists t (suc n) l = let r = reach w t (count w t - suc n) (omega arith) in (r.0, retreat_of w (omega arith) r.2 (omega arith))

  pub retreat_needs : {t n u : ℕ} → IsRetreat w t n u → n ≤ count w t
  retreat_needs a = omega (arith, a.total)

  pub retreat_above : (t n h : ℕ) → h ≤ t → count w h + n ≤ count w t → (u : ℕ) × (h ≤ u) × IsRetreat w t n u
  retreat_above t zero h a l = (t, a, (retreat_by_zero w).1 refl)
  retreat_above t (suc n) h a l =
      let r = reach w t (count w t - suc n) (omega arith) in
      (r.0, (start_le w r.2).1 (omega arith), retreat_of w (omega arith) r.2 (omega arith))

  -- ---- work without end: every walk forward has an answer

  module _ (endless : (t : ℕ) → (u : ℕ) × (t ≤ u) × (w u ≡ true)) where
    pub endless_count : (t n : ℕ) → (h : ℕ) × (t ≤ h) × (count w t + n ≤ count w h)
    endless_count t zero = (t, omega arith, omega arith)
    endless_count t (suc n) =
        let r = endless_count t n in
        let u = endless r.0 in
        (suc u.0, omega arith, omega (arith, count_mono w {s = r.0} {t = u.0} u.1, count_worked w u.0 u.2))

    pub endless_next_start : (t : ℕ) → (u : ℕ) × IsNextStart w t u
    endless_next_start t = let v = endless t in let r = next_start_exists v.1 v.2 in (r.0, r.2)

    pub endless_next_finish : (t : ℕ) → (u : ℕ) × IsNextFinish w t u
    endless_next_finish t = let v = endless t in let r = next_finish_exists v.1 v.2 in (r.0, r.2)

    pub endless_advance : (t n : ℕ) → (u : ℕ) × IsAdvance w t n u
    endless_advance t n = let h = endless_count t n in let r = advance_exists t n h.0 h.1 h.2 in (r.0, r.2)
