-- E records one by one: one more changes the work of days on its own day alone, and with all of them it is the count's.
use Rattle.std.specs.Prelude.{◌≡◌, eqb}
use Rattle.std.proofs.Math.Path.{refl, ap}
use Rattle.std.proofs.Common.{sym, ◌∙◌, add-zero, length-append}
use Rattle.std.proofs.Math.Bool.{true, false}
use Rattle.std.proofs.Math.Logic.{⊎_elim}
use mathlib.Core.List.{List, [], ◌∷◌, ◌++◌}
use Prim.Native.Nat.{ℕ, zero, suc, ◌+◌, ◌-◌, ◌*◌, min, ◌≤◌, ◌<◌}
use native.Mathlib.Omega.{arith}
use Rattle.std.proofs.Math.ListN.{length, get_or}
use Rattle.std.proofs.lemmas.List.{nil_from_length}
use Rattle.number.specs.Order.{eq_or_ne, zero_or_pos}
use Rattle.date.specs.Days.{weekday}
use Rattle.calendar.specs.declared.Period.{Period}
use Rattle.calendar.specs.Hours.{rank}
use Rattle.calendar.specs.HoursLaws.{rank_bound}
use Rattle.calendar.specs.Records.{exception_day, exception_period, exceptions_on, hours_on, Valid}
use Rattle.calendar.specs.DayLaws.{on_take, on_skip, on_rest, hours_week, hours_own}
use Rattle.worktime.specs.Worked.{count}
use Rattle.clock.specs.On.{worked_on}
use Rattle.clock.specs.Weeks.{row_ordered}
use Rattle.clock.specs.Regular.{Sums, days_work}
use Rattle.clock.specs.RegularLaws.{count_days}

-- ---- any hours
module _ (h : ℕ → List Period) (d : ℕ) where
  pub days_small : ((x : ℕ) → rank (h x) 1440 ≤ 1440) → (m : ℕ) → days_work h d m ≤ 1440 * m
  unfolding days_work
  days_small s zero = omega arith
  days_small s (suc m) = omega (arith, s (d + m), days_small s m)

  days_same : (h' : ℕ → List Period) (m : ℕ) → ((x : ℕ) → d ≤ x → x < d + m → h' x ≡ h x) → days_work h' d m ≡ days_work h d m
  unfolding days_work
  days_same h' zero f = refl
  days_same h' (suc m) f =
      omega (arith, days_same h' m (λ x a b. f x a (omega arith)), ap (λ (ps : List Period). rank ps 1440) (f (d + m) (omega arith) (omega arith)))

  -- the hours of day x alone are others
  days_but_one : (h' : ℕ → List Period) (x a b : ℕ) → ((y : ℕ) → (y ≡ x → ⊥) → h' y ≡ h y) → rank (h' x) 1440 + a ≡ rank (h x) 1440 + b
      → (m : ℕ) → d ≤ x → x < d + m → days_work h' d m + a ≡ days_work h d m + b
  unfolding days_work
  days_but_one h' x a b f g zero l k = absurd (omega arith)
  days_but_one h' x a b f g (suc m) l k =
      ⊎_elim
      (λ (e : d + m ≡ x).
      let p : rank (h' (d + m)) 1440 + a ≡ rank (h (d + m)) 1440 + b = rw e g in
      omega (arith, p, days_same h' m (λ y c r. f y (λ z. omega arith))))
      (λ ne.
      omega (arith, days_but_one h' x a b f g m l (omega arith), ap (λ (ps : List Period). rank ps 1440) (f (d + m) ne))) (eq_or_ne (d + m) x)

-- ---- E records one by one
pub rank_append : (ps : List Period) (p : Period) (m : ℕ) → rank (ps ++ (p ∷ [])) m ≡ rank ps m + (min m p.to - p.from)
unfolding rank
rank_append [] p m = omega arith
rank_append (q ∷ ps) p m = omega (arith, rank_append ps p m)

module _ (week : List (List Period)) (s : List ℕ) (at : ℕ) where
  hours_by : (x i j : ℕ) → exceptions_on s at x i ≡ exceptions_on s at x j → hours_on week s at i x ≡ hours_on week s at j x
  unfolding hours_on
  hours_by x i j e = ap (λ (ps : List Period). elim (eqb (length ps) 0) [ true ↦ get_or week (weekday x) [] | false ↦ ps ]) e

  -- records of other days change nothing
  hours_rest : (x i k : ℕ) → ((j : ℕ) → i ≤ j → j < i + k → exception_day s at j ≡ x → ⊥) → hours_on week s at (i + k) x ≡ hours_on week s at i x
  hours_rest x i k f = hours_by x (i + k) i (on_rest s at x i k f)

  -- no record of day x among the first j
  pub none_first : (x j : ℕ) → ((i : ℕ) → i < j → exception_day s at i ≡ x → ⊥) → exceptions_on s at x j ≡ []
  unfolding exceptions_on
  none_first x j f = let e : 0 + j ≡ j = omega arith in rw e at (on_rest s at x 0 j (λ i a b. f i (omega arith)))

  -- record j, of day x, after the first j
  module _ (j x : ℕ) (is : exception_day s at j ≡ x) (len : ℕ) (e : len ≡ min 1440 (exception_period s at j).to - (exception_period s at j).from) where
    own_rank : rank (hours_on week s at (j + 1) x) 1440 ≡ rank (exceptions_on s at x j) 1440 + len
    own_rank =
        let t : exceptions_on s at x (j + 1) ≡ exceptions_on s at x j ++ (exception_period s at j ∷ []) = on_take s at x j is in
        let o : hours_on week s at (j + 1) x ≡ exceptions_on s at x (j + 1) =
        hours_own week s at (j + 1) x (rw t (omega (arith, length-append (exceptions_on s at x j) (exception_period s at j ∷ [])))) in
        omega (arith, ap (λ (ps : List Period). rank ps 1440) (o ∙ t), rank_append (exceptions_on s at x j) (exception_period s at j) 1440, e)

    others : (y : ℕ) → (y ≡ x → ⊥) → hours_on week s at (j + 1) y ≡ hours_on week s at j y
    others y ne = hours_by y (j + 1) j (on_skip s at y j (λ z. ne (sym z ∙ is)))

    module _ (d m : ℕ) (l : d ≤ x) (k : x < d + m) where
      -- the first of its day: the weekday's minutes go
      pub first_own : {ss : List ℕ} → Sums week ss → exceptions_on s at x j ≡ [] → (r : ℕ) → get_or ss (weekday x) 0 + r ≡ get_or ss (weekday x + 1) 0
          → days_work (hours_on week s at (j + 1)) d m + r ≡ days_work (hours_on week s at j) d m + len
      unfolding rank
      first_own sums none r q =
          let g : rank (exceptions_on s at x j) 1440 ≡ 0 = ap (λ (ps : List Period). rank ps 1440) none in
          let p : rank (hours_on week s at j x) 1440 ≡ rank (get_or week (weekday x) []) 1440 = ap (λ (ps : List Period). rank ps 1440) (hours_week week s at j x none) in
          days_but_one (hours_on week s at j) d (hours_on week s at (j + 1)) x r len others
          (omega (arith, own_rank, g, p, q, sums.each (weekday x) (omega arith))) m l k

      -- a further one of its day
      pub further_own : 0 < length (exceptions_on s at x j) → days_work (hours_on week s at (j + 1)) d m ≡ days_work (hours_on week s at j) d m + len
      further_own some =
          let p : rank (hours_on week s at j x) 1440 ≡ rank (exceptions_on s at x j) 1440 = ap (λ (ps : List Period). rank ps 1440) (hours_own week s at j x some) in
          omega (arith, days_but_one (hours_on week s at j) d (hours_on week s at (j + 1)) x 0 len others (omega (arith, own_rank, p)) m l k)

  -- a record of day x before record j
  pub some_own : (j x : ℕ) → 0 < j → exception_day s at (j - 1) ≡ x → 0 < length (exceptions_on s at x j)
  some_own j x p is =
      let e : j ≡ j - 1 + 1 = omega arith in
      let t = on_take s at x (j - 1) is in
      rw (e, t) (omega (arith, length-append (exceptions_on s at x (j - 1)) (exception_period s at (j - 1) ∷ [])))

  -- ---- with fewer records a day has at most 1,440 minutes, too
  module _ {n : ℕ} (valid : Valid week s at n) where
    pub on_more : (x j k : ℕ) → rank (exceptions_on s at x j) 1440 ≤ rank (exceptions_on s at x (j + k)) 1440
    on_more x j zero = rw add-zero (omega arith)
    on_more x j (suc k) =
        let e : j + suc k ≡ j + k + 1 = omega arith in
        rw e
        (⊎_elim
        (λ is.
        omega (arith, ap (λ (ps : List Period). rank ps 1440) (on_take s at x (j + k) is), rank_append (exceptions_on s at x (j + k)) (exception_period s at (j + k)) 1440, on_more x j k))
        (λ ne. omega (arith, ap (λ (ps : List Period). rank ps 1440) (on_skip s at x (j + k) ne), on_more x j k)) (eq_or_ne (exception_day s at (j + k)) x))

    all_small : (x : ℕ) → rank (exceptions_on s at x n) 1440 ≤ 1440
    unfolding rank
    all_small x =
        ⊎_elim (λ (z : length (exceptions_on s at x n) ≡ 0). let e : exceptions_on s at x n ≡ [] = nil_from_length (exceptions_on s at x n) z in rw e (omega arith))
        (λ (z : 0 < length (exceptions_on s at x n)). rank_bound (exceptions_on s at x n) 1440 (rw (hours_own week s at n x z) at (valid.ordered x))) (zero_or_pos (length (exceptions_on s at x n)))

    pub part_small : (j : ℕ) → j ≤ n → (x : ℕ) → rank (hours_on week s at j x) 1440 ≤ 1440
    part_small j l x =
        let e : j + (n - j) ≡ n = omega arith in
        let m : rank (exceptions_on s at x j) 1440 ≤ rank (exceptions_on s at x n) 1440 = rw e at (on_more x j (n - j)) in
        ⊎_elim
        (λ (z : length (exceptions_on s at x j) ≡ 0).
        omega (arith, ap (λ (ps : List Period). rank ps 1440) (hours_week week s at j x (nil_from_length (exceptions_on s at x j) z)), rank_bound (get_or week (weekday x) []) 1440 (row_ordered valid (weekday x) (omega arith))))
        (λ z. omega (arith, ap (λ (ps : List Period). rank ps 1440) (hours_own week s at j x z), m, all_small x)) (zero_or_pos (length (exceptions_on s at x j)))

    -- where all records of days before e are taken, the sum is the count's
    pub days_end : (d e j sum : ℕ) → d ≤ e → j ≤ n → ((i : ℕ) → j ≤ i → i < n → e ≤ exception_day s at i) → sum ≡ days_work (hours_on week s at j) d (e - d)
        → (count (worked_on week s at n) (d * 1440) + sum ≡ count (worked_on week s at n) (e * 1440)) × (sum ≤ 1440 * (e - d))
    days_end d e j sum l k later q =
        let g : d + (e - d) ≡ e = omega arith in
        let f : j + (n - j) ≡ n = omega arith in
        let same : days_work (hours_on week s at n) d (e - d) ≡ days_work (hours_on week s at j) d (e - d) =
        days_same (hours_on week s at j) d (hours_on week s at n) (e - d)
        (λ x a b. rw f at (hours_rest x j (n - j) (λ i u v z. omega (arith, later i u (omega arith))))) in
        let c = rw g at (count_days (hours_on week s at n) d valid.ordered (e - d)) in
        (omega (arith, same, c), omega (arith, days_small (hours_on week s at j) d (part_small j k) (e - d)))
