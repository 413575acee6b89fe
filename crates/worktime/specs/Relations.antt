-- Laws of the clock's five relations, over any set `w` of worked minutes: each by counts, its one answer, and the order of answers.
use Rattle.std.specs.Prelude.{◌≡◌, refl, Bool, true, false, ◌↔◌, ℕ, suc, ◌+◌, ◌≤◌, ◌<◌}
use Rattle.std.proofs.Common.{sym, ap, ◌∙◌, true≢false, ⊎_elim, le_antisymm, arith}
use Rattle.number.specs.Order.{cases, lt_or_le, zero_or_pos}
use Rattle.worktime.specs.Worked.{count, closing, IsNextStart, IsPreviousFinish, IsNextFinish, IsAdvance, IsRetreat}
use Rattle.worktime.specs.Count.{count_mono, count_lt_lt, closing_suc, start_le, close_le, close_lt, start_unique, close_unique, gap}

module _ (w : ℕ → Bool) where
  -- ---- next start

  pub next_start_iff : {t u : ℕ} → IsNextStart w t u ↔ ((t ≤ u) × (w u ≡ true) × (count w u ≡ count w t))
  next_start_iff {t} {u} = (to, from)
    where
      idle : IsNextStart w t u → (m : ℕ) → t ≤ m → m < u → w m ≡ false
      idle s m a b = ⊎_elim (λ e. absurd (let l = s.least m a e in omega arith)) (λ e. e) (cases (w m))

      to : IsNextStart w t u → (t ≤ u) × (w u ≡ true) × (count w u ≡ count w t)
      to s = (s.after, s.worked, gap w s.after (idle s))

      from : (t ≤ u) × (w u ≡ true) × (count w u ≡ count w t) → IsNextStart w t u
      from f = record { after = f.0; worked = f.1; least = λ v a e. (start_le w e).1 (omega (arith, count_mono w a)) }

  pub next_start_count : {t u : ℕ} → IsNextStart w t u → count w u ≡ count w t
  next_start_count s = (next_start_iff.0 s).2

  pub next_start_of : {t u : ℕ} → w u ≡ true → count w u ≡ count w t → IsNextStart w t u
  next_start_of h e = next_start_iff.1 ((start_le w h).1 (omega arith), h, e)

  pub next_start_unique : {t u v : ℕ} → IsNextStart w t u → IsNextStart w t v → u ≡ v
  next_start_unique a b = start_unique w a.worked b.worked (next_start_count a ∙ sym (next_start_count b))

  pub next_start_mono : {t t' u u' : ℕ} → t ≤ t' → IsNextStart w t u → IsNextStart w t' u' → u ≤ u'
  next_start_mono l a b = (start_le w b.worked).1 (omega (arith, next_start_count a, next_start_count b, count_mono w l))

  -- a worked minute is its own next start, so a next start's next start is itself
  pub next_start_here : {t : ℕ} → w t ≡ true → IsNextStart w t t
  next_start_here h = next_start_of h refl

  pub next_start_still : {t u : ℕ} → w t ≡ true → IsNextStart w t u → u ≡ t
  next_start_still h s = next_start_unique s (next_start_here h)

  pub next_start_again : {t u : ℕ} → IsNextStart w t u → IsNextStart w u u
  next_start_again s = next_start_here s.worked

  -- it is the next start of every minute on the way
  pub next_start_between : {t s u : ℕ} → t ≤ s → s ≤ u → IsNextStart w t u → IsNextStart w s u
  next_start_between a b s = next_start_of s.worked (omega (arith, next_start_count s, count_mono w a, count_mono w b))

  -- ---- previous finish

  pub previous_finish_iff : {t u : ℕ} → IsPreviousFinish w t u ↔ ((u ≤ t) × (closing w u ≡ true) × (count w u ≡ count w t))
  previous_finish_iff {t} {u} = (to, from)
    where
      idle : IsPreviousFinish w t u → (m : ℕ) → u ≤ m → m < t → w m ≡ false
      idle s m a b = ⊎_elim (λ e. absurd (let l = s.greatest (suc m) b (closing_suc w m ∙ e) in omega arith)) (λ e. e) (cases (w m))

      to : IsPreviousFinish w t u → (u ≤ t) × (closing w u ≡ true) × (count w u ≡ count w t)
      to s = (s.before, s.closes, sym (gap w s.before (idle s)))

      from : (u ≤ t) × (closing w u ≡ true) × (count w u ≡ count w t) → IsPreviousFinish w t u
      from f = record { before = f.0; closes = f.1; greatest = λ v a e. (close_le w e).1 (omega (arith, count_mono w a)) }

  pub previous_finish_count : {t u : ℕ} → IsPreviousFinish w t u → count w u ≡ count w t
  previous_finish_count a = (previous_finish_iff.0 a).2

  pub previous_finish_of : {t u : ℕ} → closing w u ≡ true → count w u ≡ count w t → IsPreviousFinish w t u
  previous_finish_of h e = previous_finish_iff.1 ((close_le w h).1 (omega arith), h, e)

  pub previous_finish_unique : {t u v : ℕ} → IsPreviousFinish w t u → IsPreviousFinish w t v → u ≡ v
  previous_finish_unique a b = close_unique w a.closes b.closes (previous_finish_count a ∙ sym (previous_finish_count b))

  pub previous_finish_mono : {t t' u u' : ℕ} → t ≤ t' → IsPreviousFinish w t u → IsPreviousFinish w t' u' → u ≤ u'
  previous_finish_mono l a b =
      (close_le w a.closes).1 (omega (arith, previous_finish_count a, previous_finish_count b, count_mono w l))

  pub previous_finish_here : {t : ℕ} → closing w t ≡ true → IsPreviousFinish w t t
  previous_finish_here h = previous_finish_of h refl

  pub previous_finish_still : {t u : ℕ} → closing w t ≡ true → IsPreviousFinish w t u → u ≡ t
  previous_finish_still h s = previous_finish_unique s (previous_finish_here h)

  pub previous_finish_again : {t u : ℕ} → IsPreviousFinish w t u → IsPreviousFinish w u u
  previous_finish_again s = previous_finish_here s.closes

  pub previous_finish_between : {t s u : ℕ} → s ≤ t → u ≤ s → IsPreviousFinish w t u → IsPreviousFinish w s u
  previous_finish_between a b s = previous_finish_of s.closes (omega (arith, previous_finish_count s, count_mono w a, count_mono w b))

  -- ---- next finish

  pub next_finish_count : {t u : ℕ} → IsNextFinish w t u → count w u ≡ count w t
  next_finish_count {t} f = ⊎_elim (λ e. ap (count w) (f.here e)) (λ e. next_start_count (f.later e)) (cases (closing w t))

  pub next_finish_after : {t u : ℕ} → IsNextFinish w t u → t ≤ u
  next_finish_after {t} f = ⊎_elim (λ e. omega (arith, f.here e)) (λ e. (f.later e).after) (cases (closing w t))

  pub next_finish_iff : {t u : ℕ} → IsNextFinish w t u
      ↔ ((t ≤ u) × (closing w t ≡ true → u ≡ t) × (closing w t ≡ false → w u ≡ true) × (count w u ≡ count w t))
  next_finish_iff = (
    λ f. (next_finish_after f, f.here, λ e. (f.later e).worked, next_finish_count f),
    λ p. record { here = p.1; later = λ e. next_start_of (p.2 e) p.3 },
  )

  pub next_finish_here : {t : ℕ} → closing w t ≡ true → IsNextFinish w t t
  next_finish_here h = record { here = λ e. refl; later = λ e. absurd (true≢false (sym h ∙ e)) }

  pub next_finish_later : {t u : ℕ} → closing w t ≡ false → IsNextStart w t u → IsNextFinish w t u
  next_finish_later h s = record { here = λ e. absurd (true≢false (sym e ∙ h)); later = λ e. s }

  pub next_finish_unique : {t u v : ℕ} → IsNextFinish w t u → IsNextFinish w t v → u ≡ v
  next_finish_unique {t} a b =
      ⊎_elim (λ e. a.here e ∙ sym (b.here e)) (λ e. next_start_unique (a.later e) (b.later e)) (cases (closing w t))

  pub next_finish_mono : {t t' u u' : ℕ} → t ≤ t' → IsNextFinish w t u → IsNextFinish w t' u' → u ≤ u'
  next_finish_mono {t} {t'} {u} {u'} l a b =
      ⊎_elim (λ e. omega (arith, a.here e, next_finish_after b))
      (λ e. ⊎_elim (λ e'. shut e e') (λ e'. next_start_mono l (a.later e) (b.later e')) (cases (closing w t'))) (cases (closing w t))
    where
      shut : closing w t ≡ false → closing w t' ≡ true → u ≤ u'
      shut e e' =
          ⊎_elim
          (λ g. let h = count_lt_lt w {s = u} {t = t'} (omega (arith, next_start_count (a.later e), close_lt w e' g)) in omega (arith, b.here e'))
          (λ g. absurd (true≢false (sym e' ∙ ap (closing w) (le_antisymm g l) ∙ e))) (lt_or_le t t')

  -- ---- advance

  pub advance_of : {t n u : ℕ} → 0 < n → closing w u ≡ true → count w u ≡ count w t + n → IsAdvance w t n u
  advance_of p h e = record { still = λ z. omega arith; closes = λ q. h; total = e }

  pub advance_by_zero : {t u : ℕ} → IsAdvance w t 0 u ↔ (u ≡ t)
  advance_by_zero {t} {u} = (
    λ a. a.still refl,
    λ e. record { still = λ z. e; closes = λ q. absurd (omega arith); total = omega (arith, ap (count w) e) },
  )

  -- it is at or before just those minutes up to which enough is worked
  pub advance_le : {t n u v : ℕ} → 0 < n → IsAdvance w t n u → (u ≤ v) ↔ (count w t + n ≤ count w v)
  advance_le {v = v} p a =
      let c = close_le w {t = v} (a.closes p) in (λ l. omega (arith, a.total, c.0 l), λ h. c.1 (omega (arith, a.total)))

  pub advance_unique : {t n u v : ℕ} → IsAdvance w t n u → IsAdvance w t n v → u ≡ v
  advance_unique {n = n} a b =
      ⊎_elim (λ z. a.still z ∙ sym (b.still z)) (λ p. close_unique w (a.closes p) (b.closes p) (omega arith)) (zero_or_pos n)

  pub advance_later : {t n u : ℕ} → 0 < n → IsAdvance w t n u → t < u
  advance_later p a = count_lt_lt w (omega (arith, a.total))

  pub advance_after : {t n u : ℕ} → IsAdvance w t n u → t ≤ u
  advance_after {t} {n} {u} a =
      ⊎_elim (λ z. omega (arith, a.still z)) (λ p. let l = advance_later p a in omega arith) (zero_or_pos n)

  -- later start, later finish
  pub advance_mono : {t t' n u u' : ℕ} → t ≤ t' → IsAdvance w t n u → IsAdvance w t' n u' → u ≤ u'
  advance_mono {n = n} l a b =
      ⊎_elim (λ z. omega (arith, a.still z, b.still z)) (λ p. (advance_le p a).1 (omega (arith, b.total, count_mono w l))) (zero_or_pos n)

  -- more work, later finish
  pub advance_more : {t n n' u u' : ℕ} → n ≤ n' → IsAdvance w t n u → IsAdvance w t n' u' → u ≤ u'
  advance_more {n = n} l a b =
      ⊎_elim (λ z. omega (arith, a.still z, advance_after b)) (λ p. (advance_le p a).1 (omega (arith, b.total))) (zero_or_pos n)

  pub advance_more_lt : {t n n' u u' : ℕ} → n < n' → IsAdvance w t n u → IsAdvance w t n' u' → u < u'
  advance_more_lt l a b = count_lt_lt w (omega (arith, a.total, b.total))

  pub advance_add : {t m n u v : ℕ} → IsAdvance w t m u → IsAdvance w u n v → IsAdvance w t (m + n) v
  advance_add {m = m} {n = n} a b = record {
    still = λ z. b.still (omega arith) ∙ a.still (omega arith);
    closes = λ p. ⊎_elim (λ z. rw (b.still z) (a.closes (omega arith))) (λ q. b.closes q) (zero_or_pos n);
    total = omega arith;
  }

  pub advance_split : {t m n u v : ℕ} → IsAdvance w t (m + n) v → IsAdvance w t m u → IsAdvance w u n v
  advance_split {t} {m} {n} {u} {v} a b = record {
    still = λ z. same z;
    closes = λ p. a.closes (omega arith);
    total = omega (arith, a.total, b.total);
  }
    where
      same : n ≡ 0 → v ≡ u
      same z =
          ⊎_elim (λ y. a.still (omega arith) ∙ sym (b.still y))
          (λ p. close_unique w (a.closes (omega arith)) (b.closes p) (omega (arith, a.total, b.total))) (zero_or_pos m)

  -- only what is worked from t on decides it
  pub advance_from : {t s n u : ℕ} → 0 < n → count w s ≡ count w t → IsAdvance w t n u → IsAdvance w s n u
  advance_from p e a = advance_of p (a.closes p) (omega (arith, a.total))

  pub advance_next_start : {t n u s : ℕ} → 0 < n → IsAdvance w t n u → IsNextStart w t s → IsAdvance w s n u
  advance_next_start p a s = advance_from p (next_start_count s) a

  -- ---- retreat

  pub retreat_of : {t n u : ℕ} → 0 < n → w u ≡ true → count w u + n ≡ count w t → IsRetreat w t n u
  retreat_of p h e = record { still = λ z. omega arith; worked = λ q. h; total = e }

  pub retreat_by_zero : {t u : ℕ} → IsRetreat w t 0 u ↔ (u ≡ t)
  retreat_by_zero {t} {u} = (
    λ a. a.still refl,
    λ e. record { still = λ z. e; worked = λ q. absurd (omega arith); total = omega (arith, ap (count w) e) },
  )

  -- it is at or after just those minutes from which enough is worked
  pub retreat_le : {t n u v : ℕ} → 0 < n → IsRetreat w t n u → (v ≤ u) ↔ (count w v + n ≤ count w t)
  retreat_le {v = v} p a =
      let c = start_le w {t = v} (a.worked p) in (λ l. omega (arith, a.total, c.0 l), λ h. c.1 (omega (arith, a.total)))

  pub retreat_unique : {t n u v : ℕ} → IsRetreat w t n u → IsRetreat w t n v → u ≡ v
  retreat_unique {n = n} a b =
      ⊎_elim (λ z. a.still z ∙ sym (b.still z)) (λ p. start_unique w (a.worked p) (b.worked p) (omega arith)) (zero_or_pos n)

  pub retreat_earlier : {t n u : ℕ} → 0 < n → IsRetreat w t n u → u < t
  retreat_earlier p a = count_lt_lt w (omega (arith, a.total))

  pub retreat_before : {t n u : ℕ} → IsRetreat w t n u → u ≤ t
  retreat_before {t} {n} {u} a =
      ⊎_elim (λ z. omega (arith, a.still z)) (λ p. let l = retreat_earlier p a in omega arith) (zero_or_pos n)

  pub retreat_mono : {t t' n u u' : ℕ} → t ≤ t' → IsRetreat w t n u → IsRetreat w t' n u' → u ≤ u'
  retreat_mono {n = n} l a b =
      ⊎_elim (λ z. omega (arith, a.still z, b.still z)) (λ p. (retreat_le p b).1 (omega (arith, a.total, count_mono w l))) (zero_or_pos n)

  pub retreat_more : {t n n' u u' : ℕ} → n ≤ n' → IsRetreat w t n u → IsRetreat w t n' u' → u' ≤ u
  retreat_more {n = n} l a b =
      ⊎_elim (λ z. omega (arith, a.still z, retreat_before b)) (λ p. (retreat_le p a).1 (omega (arith, b.total))) (zero_or_pos n)

  pub retreat_more_lt : {t n n' u u' : ℕ} → n < n' → IsRetreat w t n u → IsRetreat w t n' u' → u' < u
  retreat_more_lt l a b = count_lt_lt w (omega (arith, a.total, b.total))

  pub retreat_add : {t m n u v : ℕ} → IsRetreat w t m u → IsRetreat w u n v → IsRetreat w t (m + n) v
  retreat_add {m = m} {n = n} a b = record {
    still = λ z. b.still (omega arith) ∙ a.still (omega arith);
    worked = λ p. ⊎_elim (λ z. rw (b.still z) (a.worked (omega arith))) (λ q. b.worked q) (zero_or_pos n);
    total = omega arith;
  }

  pub retreat_split : {t m n u v : ℕ} → IsRetreat w t (m + n) v → IsRetreat w t m u → IsRetreat w u n v
  retreat_split {t} {m} {n} {u} {v} a b = record {
    still = λ z. same z;
    worked = λ p. a.worked (omega arith);
    total = omega (arith, a.total, b.total);
  }
    where
      same : n ≡ 0 → v ≡ u
      same z =
          ⊎_elim (λ y. a.still (omega arith) ∙ sym (b.still y))
          (λ p. start_unique w (a.worked (omega arith)) (b.worked p) (omega (arith, a.total, b.total))) (zero_or_pos m)

  -- only what is worked up to t decides it
  pub retreat_from : {t s n u : ℕ} → 0 < n → count w s ≡ count w t → IsRetreat w t n u → IsRetreat w s n u
  retreat_from p e a = retreat_of p (a.worked p) (omega (arith, a.total))

  pub retreat_previous_finish : {t n u f : ℕ} → 0 < n → IsRetreat w t n u → IsPreviousFinish w t f → IsRetreat w f n u
  retreat_previous_finish p a f = retreat_from p (previous_finish_count f) a

  pub retreat_next_finish : {t n u f : ℕ} → 0 < n → IsRetreat w t n u → IsNextFinish w t f → IsRetreat w f n u
  retreat_next_finish p a f = retreat_from p (next_finish_count f) a
