-- The week of the W records, a record at a time, as a loop over them goes; weekly hours; and the round-the-clock week.
use Rattle.std.specs.Prelude.{◌≡◌, true, false, List, [], ◌∷◌, ◌++◌, length, get_or, set, replicate}
use Rattle.std.proofs.Math.Path.{refl}
use Rattle.std.proofs.Common.{sym, ap, ◌∙◌, true≢false, ⊎_elim, append_assoc, arith, add-zero, add-one, length-set, length-append, ext_get_or, get_or-set_same, get_or-set_other}
use Prim.Native.Nat.{ℕ, zero, suc, ◌+◌, ◌-◌, ◌≤◌, ◌<◌}
use borrow.Author.Tests.{eq-eqb, ne_eqb}
use Rattle.std.proofs.lemmas.List.{length-replicate, get_or-replicate}
use Rattle.std.proofs.Math.Seq.{set-append_seam}
use Rattle.std.specs.List.{list_any}
use Rattle.number.specs.Order.{eq_or_ne, cases}
use Rattle.calendar.specs.declared.Period.{Period}
use Rattle.calendar.specs.Hours.{none, held, Ordered, works}
use Rattle.calendar.specs.Records.{weekday_at, week_period_at, week_periods, pad, week_of, round_the_clock, weekly_hours}
use Rattle.date.specs.Days.{weekday}
use Rattle.calendar.specs.HoursLaws.{holds_in, held_here}

pub pad_length : (ps : List Period) → length ps ≤ 8 → length (pad ps) ≡ 8
pad_length ps l = omega (arith, length-append ps (replicate (8 - length ps) none), length-replicate (8 - length ps) none)

-- the first empty period becomes p
pub pad_push : (ps : List Period) (p : Period) → length ps < 8 → set (pad ps) (length ps) p ≡ pad (ps ++ (p ∷ []))
pad_push ps p l =
    let e : 8 - length ps ≡ suc (8 - length (ps ++ (p ∷ []))) = omega (arith, length-append ps (p ∷ [])) in
    rw (e, set-append_seam, append_assoc)

module _ (s : List ℕ) (at k i : ℕ) where
  pub week_take : weekday_at s at i ≡ k → week_periods s at k (i + 1) ≡ week_periods s at k i ++ (week_period_at s at i ∷ [])
  unfolding week_periods
  week_take e = rw (add-one i, eq-eqb (weekday_at s at i) k e, week_periods)

  pub week_skip : (weekday_at s at i ≡ k → ⊥) → week_periods s at k (i + 1) ≡ week_periods s at k i
  unfolding week_periods
  week_skip e = rw (add-one i, ne_eqb (weekday_at s at i) k e, week_periods)

module _ (s : List ℕ) (at k : ℕ) where
  week_mono : (i j : ℕ) → length (week_periods s at k i) ≤ length (week_periods s at k (i + j))
  week_mono i zero = rw add-zero (omega arith)
  week_mono i (suc j) =
      let e : i + suc j ≡ i + j + 1 = omega arith in
      rw e
      (⊎_elim (λ q. rw (week_take s at k (i + j) q) (omega (arith, length-append (week_periods s at k (i + j)) (week_period_at s at (i + j) ∷ []), week_mono i j)))
      (λ q. rw (week_skip s at k (i + j) q) (week_mono i j)) (eq_or_ne (weekday_at s at (i + j)) k))

  -- where another period comes, there is room for it
  pub week_room : (i n : ℕ) → i < n → weekday_at s at i ≡ k → length (week_periods s at k i) < length (week_periods s at k n)
  week_room i n l q =
      let e : i + 1 + (n - (i + 1)) ≡ n = omega arith in
      let f : length (week_periods s at k (i + 1)) ≡ length (week_periods s at k i) + 1 =
      rw (week_take s at k i q) (length-append (week_periods s at k i) (week_period_at s at i ∷ []))
      in
      omega (arith, ap (λ (m : ℕ). length (week_periods s at k m)) e, week_mono (i + 1) (n - (i + 1)))

-- what the loop over the records keeps: how many periods there are, and the row
abbrev pub Kept : List ℕ → ℕ → ℕ → ℕ → ℕ → List Period → Type 0
Kept s at k i c row = (c ≡ length (week_periods s at k i)) × (row ≡ pad (week_periods s at k i))

module _ (s : List ℕ) (at k i c : ℕ) (row : List Period) (kept : Kept s at k i c row) where
  pub kept_push : (p : Period) → weekday_at s at i ≡ k → c < 8 → p ≡ week_period_at s at i → Kept s at k (i + 1) (c + 1) (set row c p)
  kept_push p q l e =
      rw (week_take s at k i q, kept.0, kept.1, e)
      (sym (length-append (week_periods s at k i) (week_period_at s at i ∷ [])), pad_push (week_periods s at k i) (week_period_at s at i) (omega arith))

  pub kept_skip : (weekday_at s at i ≡ k → ⊥) → Kept s at k (i + 1) c row
  kept_skip q = rw (week_skip s at k i q) kept

-- what the loop keeps of all seven weekdays
pub record Rows (s : List ℕ) (at i : ℕ) (counts : List ℕ) (week : List (List Period)) : Type 0 where
  pub counted : length counts ≡ 7
  pub seven : length week ≡ 7
  pub kept : (k : ℕ) → k < 7 → Kept s at k i (get_or counts k 0) (get_or week k [])

pub rows_start : (s : List ℕ) (at : ℕ) → Rows s at 0 (replicate 7 0) (replicate 7 (replicate 8 none))
unfolding week_periods
rows_start s at =
    record {
      counted = refl;
      seven = refl;
      kept = λ k l. (get_or-replicate 7 k 0 0 l, get_or-replicate 7 k (replicate 8 none) [] l);
    }

module _ (s : List ℕ) (at i : ℕ) (counts : List ℕ) (week : List (List Period)) (rows : Rows s at i counts week) where
  -- where another period of weekday k comes, its row has room
  pub rows_room : (k n : ℕ) → k < 7 → i < n → weekday_at s at i ≡ k → length (week_periods s at k n) ≤ 8 → (get_or counts k 0 < 8) × (length (get_or week k []) ≡ 8)
  rows_room k n h l q few =
      let r = rows.kept k h in
      let m = week_room s at k i n l q in
      (omega (arith, r.0), rw r.1 (pad_length (week_periods s at k i) (omega arith)))

  pub rows_push : (k : ℕ) (p : Period) → k < 7 → weekday_at s at i ≡ k → get_or counts k 0 < 8 → p ≡ week_period_at s at i
      → Rows s at (i + 1) (set counts k (get_or counts k 0 + 1)) (set week k (set (get_or week k []) (get_or counts k 0) p))
  rows_push k p h q l e =
      record {
        counted = simp length-set rows.counted;
        seven = simp length-set rows.seven;
        kept = λ j g. ⊎_elim (λ x. same j x) (λ x. other j g x) (eq_or_ne j k);
      }
    where
      counts' : List ℕ
      counts' = set counts k (get_or counts k 0 + 1)

      week' : List (List Period)
      week' = set week k (set (get_or week k []) (get_or counts k 0) p)

      same : (j : ℕ) → j ≡ k → Kept s at j (i + 1) (get_or counts' j 0) (get_or week' j [])
      same j x =
          rw (
            x,
            get_or-set_same counts k (get_or counts k 0 + 1) 0 (omega (arith, rows.counted)),
            get_or-set_same week k (set (get_or week k []) (get_or counts k 0) p) [] (omega (arith, rows.seven)),
          )
          (kept_push s at k i (get_or counts k 0) (get_or week k []) (rows.kept k h) p q l e)

      other : (j : ℕ) → j < 7 → (j ≡ k → ⊥) → Kept s at j (i + 1) (get_or counts' j 0) (get_or week' j [])
      other j g x =
          rw (get_or-set_other counts k j (get_or counts k 0 + 1) 0 x, get_or-set_other week k j (set (get_or week k []) (get_or counts k 0) p) [] x)
          (kept_skip s at j i (get_or counts j 0) (get_or week j []) (rows.kept j g) (λ y. x (sym y ∙ q)))

  -- a record of no weekday
  pub rows_skip : 7 ≤ weekday_at s at i → Rows s at (i + 1) counts week
  rows_skip o =
      record {
        counted = rows.counted;
        seven = rows.seven;
        kept = λ j g. kept_skip s at j i (get_or counts j 0) (get_or week j []) (rows.kept j g) (λ y. omega arith);
      }

module _ (s : List ℕ) (at n : ℕ) where
  pub week_length : length (week_of s at n) ≡ 7
  unfolding week_of
  week_length = refl

  pub week_row : (k : ℕ) → k < 7 → get_or (week_of s at n) k [] ≡ pad (week_periods s at k n)
  unfolding week_of
  week_row zero l = refl
  week_row (suc zero) l = refl
  week_row (suc (suc zero)) l = refl
  week_row (suc (suc (suc zero))) l = refl
  week_row (suc (suc (suc (suc zero)))) l = refl
  week_row (suc (suc (suc (suc (suc zero))))) l = refl
  week_row (suc (suc (suc (suc (suc (suc zero)))))) l = refl
  week_row (suc (suc (suc (suc (suc (suc (suc k))))))) l = absurd (omega arith)

  -- "a week is seven rows of eight periods"
  pub week_row_length : (k : ℕ) → k < 7 → length (week_periods s at k n) ≤ 8 → length (get_or (week_of s at n) k []) ≡ 8
  week_row_length k l r = rw (week_row k l) (pad_length (week_periods s at k n) r)

  -- seven such rows are the week
  pub week_rows : (week : List (List Period)) → length week ≡ 7 → ((k : ℕ) → k < 7 → get_or week k [] ≡ pad (week_periods s at k n)) → week ≡ week_of s at n
  week_rows week l f = ext_get_or [] week (week_of s at n) (l ∙ sym week_length) (λ k h. f k (omega arith) ∙ sym (week_row k (omega arith)))

-- ---- weekly hours
module _ (r : List Period) (rs : List (List Period)) where
  pub weekly_here : works r ≡ true → weekly_hours (r ∷ rs) ≡ true
  unfolding weekly_hours
  weekly_here e = rw (e, weekly_hours)

  pub weekly_rest : works r ≡ false → weekly_hours (r ∷ rs) ≡ weekly_hours rs
  unfolding weekly_hours
  weekly_rest e = rw (e, weekly_hours)

pub weekly_none : weekly_hours [] ≡ false
unfolding weekly_hours
weekly_none = refl

-- the weekday that has hours
pub row_of : (week : List (List Period)) → weekly_hours week ≡ true → (k : ℕ) × (k < length week) × (works (get_or week k []) ≡ true)
row_of [] e = absurd (true≢false (sym e ∙ weekly_none))
row_of (r ∷ rs) e =
    ⊎_elim (λ h. (0, omega arith, h)) (λ h. let s = row_of rs (sym (weekly_rest r rs h) ∙ e) in (suc s.0, omega (arith, s.1), s.2)) (cases (works r))

-- as a search among the weekdays goes
pub weekly_any : (week : List (List Period)) → list_any works week ≡ weekly_hours week
unfolding weekly_hours
weekly_any [] = refl
weekly_any (r ∷ rs) = ⊎_elim (λ (h : works r ≡ true). rw (h, weekly_hours)) (λ (h : works r ≡ false). rw (h, weekly_hours) (weekly_any rs)) (cases (works r))

-- ---- round the clock
abbrev pub whole_day : List Period
whole_day = record { from = 0; to = 1440 } ∷ replicate 7 none

pub clock_row : (k : ℕ) → k < 7 → get_or round_the_clock k [] ≡ whole_day
unfolding round_the_clock
clock_row k l = get_or-replicate 7 k whole_day [] l

pub whole_held : (m : ℕ) → m < 1440 → held whole_day m ≡ true
whole_held m l = held_here (record { from = 0; to = 1440 }) (replicate 7 none) m (holds_in (record { from = 0; to = 1440 }) m (omega arith) l)

pub whole_ordered : Ordered 0 whole_day
whole_ordered =
    let e : (n : ℕ) (a : ℕ) → Ordered a (replicate n none) = empty in
    (omega arith, λ l. (omega arith, omega arith), e 7 _)
  where
    empty : (n : ℕ) (a : ℕ) → Ordered a (replicate n none)
    empty zero a = tt
    empty (suc n) a = (omega arith, λ l. absurd (omega arith), empty n _)

pub clock_held : (d m : ℕ) → m < 1440 → held (get_or round_the_clock (weekday d) []) m ≡ true
clock_held d m l = rw (clock_row (weekday d) (omega arith)) (whole_held m l)

pub clock_ordered : (d : ℕ) → Ordered 0 (get_or round_the_clock (weekday d) [])
clock_ordered d = rw (clock_row (weekday d) (omega arith)) whole_ordered

pub clock_weekly : weekly_hours round_the_clock ≡ true
unfolding round_the_clock weekly_hours works
clock_weekly = refl
