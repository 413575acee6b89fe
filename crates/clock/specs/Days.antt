-- Counting worked minutes by days: what a day's rank, select and next minute say of the count. `h` is the hours of each day.
use Rattle.std.specs.Prelude.{Option, Some, None, ◌≡◌, Bool, true, false, List, ℕ, zero, suc, ◌+◌, ◌-◌, ◌*◌, ◌/◌, ◌%◌, ◌≤◌, ◌<◌, eqb}
use Rattle.std.specs.Option.{option_eq}
use Rattle.std.proofs.lemmas.Bool.Decides.{eqb_tells}
use Rattle.std.proofs.Common.{sym, ap, ◌∙◌, ⊎_elim, arith, add-zero, add-one}
use Rattle.std.proofs.Math.Path.{ap₂}
use Rattle.number.specs.Order.{cases}
use Rattle.calendar.specs.declared.Period.{Period}
use Rattle.calendar.specs.Hours.{held, worked, Ordered, rank, select, next_in}
use Rattle.calendar.specs.HoursLaws.{rank_none, rank_work, rank_rest, Selected, select_rank, next_at, next_nothing}
use Rattle.worktime.specs.Worked.{count, closing}
use Rattle.worktime.specs.Count.{count_worked_one, count_idle_one, gap, closing_suc}

is_false : (b : Bool) → (b ≡ true → ⊥) → b ≡ false
is_false b n = ⊎_elim (λ t. absurd (n t)) (λ f. f) (cases b)

module _ (h : ℕ → List Period) (d : ℕ) where
  -- minute m of day d
  pub worked_day : (m : ℕ) → m < 1440 → worked h (d * 1440 + m) ≡ held (h d) m
  unfolding worked
  worked_day m l = ap₂ (λ (k n : ℕ). held (h k) n) (omega arith) (omega arith)

  -- the minute by which k of the day's minutes are worked closes, and has k more before it than the day's first
  pub record DaySelected (k s : ℕ) : Type 0 where
    pub low : 0 < s
    pub high : s ≤ 1440
    pub closes : closing (worked h) (d * 1440 + s) ≡ true
    pub opens : worked h (d * 1440 + s - 1) ≡ true
    pub full : count (worked h) (d * 1440 + s) ≡ count (worked h) (d * 1440) + k
    pub less : count (worked h) (d * 1440 + s - 1) + 1 ≡ count (worked h) (d * 1440) + k

  module _ (o : Ordered 0 (h d)) where
    -- within a day the count goes by rank
    pub count_day : (m : ℕ) → m ≤ 1440 → count (worked h) (d * 1440 + m) ≡ count (worked h) (d * 1440) + rank (h d) m
    count_day zero l = rw add-zero (omega (arith, rank_none 0 (h d) 0 o (omega arith)))
    count_day (suc m) l =
        let e : d * 1440 + suc m ≡ d * 1440 + m + 1 = omega arith in
        let r : rank (h d) (suc m) ≡ rank (h d) (m + 1) = rw add-one in
        let i = count_day m (omega arith) in
        let k = worked_day m (omega arith) in
        rw e
        (⊎_elim (λ t. omega (arith, count_worked_one (worked h) (d * 1440 + m) (k ∙ t), rank_work 0 (h d) m o t))
        (λ t. omega (arith, count_idle_one (worked h) (d * 1440 + m) (k ∙ t), rank_rest (h d) m t)) (cases (held (h d) m)))

    pub day_selected : (k : ℕ) → 0 < k → k ≤ rank (h d) 1440 → DaySelected k (select (h d) k)
    day_selected k a b = make (select (h d) k) (select_rank 0 (h d) k o a b)
      where
        make : (s : ℕ) → Selected 0 (h d) k s → DaySelected k s
        make s i =
            let p : s - 1 < 1440 = omega (arith, i.low, i.high) in
            let e : d * 1440 + s ≡ suc (d * 1440 + (s - 1)) = omega (arith, i.low) in
            let e' : d * 1440 + s - 1 ≡ d * 1440 + (s - 1) = omega (arith, i.low) in
            let q : s - 1 + 1 ≡ s = omega (arith, i.low) in
            let t : held (h d) (s - 1) ≡ true =
            ⊎_elim (λ t. t) (λ t. absurd (omega (arith, i.full, i.least (s - 1) (omega (arith, i.low)), rank_rest (h d) (s - 1) t, ap (rank (h d)) q)))
            (cases (held (h d) (s - 1))) in
            let c : worked h (d * 1440 + (s - 1)) ≡ true = worked_day (s - 1) p ∙ t in
            record {
              low = i.low;
              high = i.high;
              closes = rw e (closing_suc (worked h) (d * 1440 + (s - 1)) ∙ c);
              opens = rw e' c;
              full = omega (arith, count_day s i.high, i.full);
              less =
                  rw e'
                  (omega (arith, count_day (s - 1) (omega (arith, i.high)), rank_work 0 (h d) (s - 1) o t, ap (rank (h d)) q, i.full));
            }

    -- the next minute of the day is worked, and nothing is before it
    pub day_next_at : (m x : ℕ) → next_in (h d) m ≡ Some x
        → (m ≤ x) × (x < 1440) × (worked h (d * 1440 + x) ≡ true) × (count (worked h) (d * 1440 + x) ≡ count (worked h) (d * 1440 + m))
    day_next_at m x e =
        let n = next_at (h d) m x o e in (
          n.0,
          n.1,
          worked_day x n.1 ∙ n.2,
          gap (worked h) (omega (arith, n.0))
              (λ u a b.
              let f : d * 1440 + (u - d * 1440) ≡ u = omega arith in
              ap (worked h) (sym f) ∙ worked_day (u - d * 1440) (omega (arith, n.1))
              ∙ is_false _ (λ t. omega (arith, n.3 (u - d * 1440) (omega arith) t))),
        )

    pub day_next_none : (m : ℕ) → m ≤ 1440 → next_in (h d) m ≡ None → count (worked h) (d * 1440 + 1440) ≡ count (worked h) (d * 1440 + m)
    day_next_none m l e =
        let n = next_nothing (h d) m o e in
        gap (worked h) (omega arith)
        (λ u a b.
        let f : d * 1440 + (u - d * 1440) ≡ u = omega arith in
        ap (worked h) (sym f) ∙ worked_day (u - d * 1440) (omega arith) ∙ is_false _ (n (u - d * 1440) (omega arith)))

    -- whether minute m is worked, by the next one
    pub day_next_here : (m : ℕ) → m < 1440 → next_in (h d) m ≡ Some m → worked h (d * 1440 + m) ≡ true
    day_next_here m l e = (day_next_at m m e).2

    pub day_next_later : (m x : ℕ) → m < 1440 → next_in (h d) m ≡ Some x → (x ≡ m → ⊥) → worked h (d * 1440 + m) ≡ false
    day_next_later m x l e ne = let n = next_at (h d) m x o e in worked_day m l ∙ is_false _ (λ t. ne (omega (arith, n.0, n.3 m (omega arith) t)))

    pub day_next_never : (m : ℕ) → m < 1440 → next_in (h d) m ≡ None → worked h (d * 1440 + m) ≡ false
    day_next_never m l e = worked_day m l ∙ is_false _ (next_nothing (h d) m o e m (omega arith))

    -- whichever it is, the minute is worked if the next one is it
    pub day_next_tells : (m : ℕ) → m < 1440 → (f : Option ℕ) → next_in (h d) m ≡ f → worked h (d * 1440 + m) ≡ option_eq eqb f (Some m)
    day_next_tells m l None e = day_next_never m l e
    day_next_tells m l (Some x) e =
        ⊎_elim (λ p. day_next_here m l (e ∙ ap Some p.1) ∙ sym p.0) (λ p. day_next_later m x l e p.1 ∙ sym p.0) (eqb_tells x m)

-- ---- the same, of a day's hours in hand: ps, which are those of day d
module _ (h : ℕ → List Period) (d : ℕ) (o : Ordered 0 (h d)) (ps : List Period) (e : ps ≡ h d) where
  pub hand_rank : (m r : ℕ) → m ≤ 1440 → r ≡ rank ps m → count (worked h) (d * 1440 + m) ≡ count (worked h) (d * 1440) + r
  hand_rank m r l q = count_day h d o m l ∙ ap (λ x. count (worked h) (d * 1440) + x) (sym (q ∙ ap (λ x. rank x m) e))

  pub hand_select : (k s : ℕ) → 0 < k → k ≤ rank ps 1440 → s ≡ select ps k → DaySelected h d k s
  hand_select k s a b q = rw (q ∙ ap (λ x. select x k) e) (day_selected h d o k a (rw e at b))

  -- the day's next minute, if there is one
  pub hand_next : (m : ℕ) (r f : Option ℕ) → r ≡ next_in ps m → r ≡ f → next_in (h d) m ≡ f
  hand_next m r f q t = sym (ap (λ x. next_in x m) e) ∙ sym q ∙ t

-- a time is a day and a minute of it
pub count_time : (w : ℕ → Bool) (t : ℕ) → count w (t / 1440 * 1440 + t % 1440) ≡ count w t
count_time w t = ap (count w) (omega arith)

-- the count up to a time by its day's hours in hand
pub hand_time : (h : ℕ → List Period) (t : ℕ) → Ordered 0 (h (t / 1440)) → (ps : List Period) → ps ≡ h (t / 1440) → (r : ℕ) → r ≡ rank ps (t % 1440)
    → count (worked h) t ≡ count (worked h) (t / 1440 * 1440) + r
hand_time h t o ps e r q = sym (count_time (worked h) t) ∙ hand_rank h (t / 1440) o ps e (t % 1440) r (omega arith) q

-- the same where the day is in hand
pub day_time : (h : ℕ → List Period) (t d : ℕ) → d ≡ t / 1440 → Ordered 0 (h d) → (ps : List Period) → ps ≡ h d → (r : ℕ) → r ≡ rank ps (t % 1440)
    → count (worked h) t ≡ count (worked h) (d * 1440) + r
day_time h t d is o ps e r q = let m : d * 1440 + t % 1440 ≡ t = omega (arith, is) in rw m at (hand_rank h d o ps e (t % 1440) r (omega arith) q)

pub worked_time : (w : ℕ → Bool) (t : ℕ) → w (t / 1440 * 1440 + t % 1440) ≡ w t
worked_time w t = ap w (omega arith)

-- the end of a day is the start of the next
pub count_next_day : (w : ℕ → Bool) (d : ℕ) → count w (d * 1440 + 1440) ≡ count w ((d + 1) * 1440 + 0)
count_next_day w d = ap (count w) (omega arith)

pub count_day_before : (w : ℕ → Bool) (d : ℕ) → 0 < d → count w ((d - 1) * 1440 + 1440) ≡ count w (d * 1440)
count_day_before w d l = ap (count w) (omega arith)
