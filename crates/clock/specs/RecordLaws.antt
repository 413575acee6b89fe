-- An E record in the hours of its day: what is counted before it and up to its end, and where its minutes stand.
use Rattle.std.specs.Prelude.{◌≡◌, refl}
use Rattle.std.proofs.Common.{sym, ◌∙◌, ⊎_elim, arith, add-zero, length-append}
use Rattle.std.proofs.Math.Path.{ap}
use mathlib.Core.List.{List, [], ◌∷◌, ◌++◌, append_assoc}
use Prim.Native.Nat.{ℕ, zero, suc, ◌+◌, ◌-◌, ◌*◌, min, max, ◌≤◌, ◌<◌}
use Rattle.number.specs.Order.{eq_or_ne}
use Rattle.calendar.specs.declared.Period.{Period}
use Rattle.calendar.specs.Hours.{Ordered, rank, select}
use Rattle.calendar.specs.HoursLaws.{select_in, select_past}
use Rattle.calendar.specs.Records.{exception_day, exception_period, exceptions_on, hours_on, Valid}
use Rattle.calendar.specs.DayLaws.{on_take, on_skip, on_rest, hours_own}
use Rattle.worktime.specs.Worked.{count}
use Rattle.clock.specs.On.{worked_on}
use Rattle.clock.specs.Days.{DaySelected, hand_rank, hand_select}
use Rattle.clock.specs.OwnDayLaws.{rank_append, none_first, on_more}
use Rattle.clock.specs.Stands.{record_work, record_count}

-- x minutes into a period, after those of the periods before it
select_after : (a : ℕ) (ps : List Period) (p : Period) (qs : List Period) (x : ℕ) → Ordered a (ps ++ (p ∷ qs)) → 0 < x → x ≤ p.to - p.from
    → select (ps ++ (p ∷ qs)) (rank ps 1440 + x) ≡ p.from + x
unfolding rank
select_after a [] p qs x o l k = let e : 0 + x ≡ x = omega arith in rw e (select_in p qs x k)
select_after a (q ∷ ps) p qs x o l k =
    let e : min 1440 q.to - q.from + rank ps 1440 + x - (q.to - q.from) ≡ rank ps 1440 + x = omega arith in
    select_past q (ps ++ (p ∷ qs)) _ (omega arith) ∙ (rw e (select_after (max a q.to) ps p qs x o.2 l k))

module _ (s : List ℕ) (at j : ℕ) where
  -- among more records of its day, record j stands after those before it
  on_split : (k : ℕ) → (qs : List Period) × (exceptions_on s at (exception_day s at j) (j + 1 + k) ≡ exceptions_on s at (exception_day s at j) j ++ (exception_period s at j ∷ qs))
  on_split zero = ([], rw add-zero (on_take s at (exception_day s at j) j refl))
  on_split (suc k) =
      let d : ℕ = exception_day s at j in
      let e : j + 1 + suc k ≡ j + 1 + k + 1 = omega arith in
      let r = on_split k in
      rw e
      (⊎_elim
      (λ is. (
        r.0 ++ (exception_period s at (j + 1 + k) ∷ []),
        on_take s at d (j + 1 + k) is ∙ ap (λ (ps : List Period). ps ++ (exception_period s at (j + 1 + k) ∷ [])) r.1 ∙ append_assoc (exceptions_on s at d j) (exception_period s at j ∷ r.0) (exception_period s at (j + 1 + k) ∷ []),
      ))
      (λ ne. (r.0, on_skip s at d (j + 1 + k) ne ∙ r.1)) (eq_or_ne (exception_day s at (j + 1 + k)) d))

  -- the minutes up to its end
  on_rank : rank (exceptions_on s at (exception_day s at j) (j + 1)) 1440 ≡ rank (exceptions_on s at (exception_day s at j) j) 1440 + record_work s at j
  on_rank =
      let d : ℕ = exception_day s at j in
      ap (λ (ps : List Period). rank ps 1440) (on_take s at d j refl) ∙ rank_append (exceptions_on s at d j) (exception_period s at j) 1440

module _ (s : List ℕ) (at n j : ℕ) (l : j < n) where
  own_split : (qs : List Period) × (exceptions_on s at (exception_day s at j) n ≡ exceptions_on s at (exception_day s at j) j ++ (exception_period s at j ∷ qs))
  own_split = let e : j + 1 + (n - (j + 1)) ≡ n = omega arith in rw e at (on_split s at j (n - (j + 1)))

  -- its day goes by the E records
  own_hours : (week : List (List Period)) → hours_on week s at n (exception_day s at j) ≡ exceptions_on s at (exception_day s at j) n
  own_hours week =
      let d : ℕ = exception_day s at j in
      let r = own_split in
      hours_own week s at n d (rw r.1 (omega (arith, length-append (exceptions_on s at d j) (exception_period s at j ∷ r.0))))

module _ (week : List (List Period)) (s : List ℕ) (at n : ℕ) where
  -- the next record, where it is of the same day
  pub count_further : (i j : ℕ) → i + 1 ≡ j → exception_day s at i ≡ exception_day s at j → record_count week s at n j ≡ record_count week s at n i + record_work s at i
  count_further i j e is =
      omega (
        arith,
        ap (λ d. count (worked_on week s at n) (d * 1440)) is,
        ap (λ d. rank (exceptions_on s at d j) 1440) is,
        ap (λ k. rank (exceptions_on s at (exception_day s at i) k) 1440) e,
        on_rank s at i,
      )

  -- the first record of its day
  pub count_first : (j : ℕ) → ((i : ℕ) → i < j → exception_day s at i < exception_day s at j) → record_count week s at n j ≡ count (worked_on week s at n) (exception_day s at j * 1440)
  unfolding rank
  count_first j f =
      let d : ℕ = exception_day s at j in
      let r : rank (exceptions_on s at d j) 1440 ≡ 0 = ap (λ (ps : List Period). rank ps 1440) (none_first week s at d j (λ i l z. omega (arith, f i l))) in
      omega (arith, r)

module _ {week : List (List Period)} {s : List ℕ} {at n : ℕ} (valid : Valid week s at n) (j : ℕ) (l : j < n) where
  -- the last record of its day
  pub count_last : ((i : ℕ) → j < i → i < n → exception_day s at j < exception_day s at i)
      → count (worked_on week s at n) ((exception_day s at j + 1) * 1440) ≡ record_count week s at n j + record_work s at j
  count_last f =
      let d : ℕ = exception_day s at j in
      let e : j + 1 + (n - (j + 1)) ≡ n = omega arith in
      let g : (d + 1) * 1440 ≡ d * 1440 + 1440 = omega arith in
      let t : exceptions_on s at d n ≡ exceptions_on s at d (j + 1) = rw e at (on_rest s at d (j + 1) (n - (j + 1)) (λ i a b z. omega (arith, f i (omega arith) (omega arith)))) in
      let c = hand_rank (hours_on week s at n) d (valid.ordered d) _ (sym (own_hours s at n j l week)) 1440 _ (omega arith) refl in
      omega (arith, ap (count (worked_on week s at n)) g, c, ap (λ (ps : List Period). rank ps 1440) t, on_rank s at j)

  -- x minutes into record j
  pub record_selected : (x : ℕ) → 0 < x → x ≤ record_work s at j
      → DaySelected (hours_on week s at n) (exception_day s at j) (rank (exceptions_on s at (exception_day s at j) j) 1440 + x) ((exception_period s at j).from + x)
  record_selected x p q =
      let d : ℕ = exception_day s at j in
      let ps : List Period = exceptions_on s at d j in
      let e : j + 1 + (n - (j + 1)) ≡ n = omega arith in
      let h : hours_on week s at n d ≡ exceptions_on s at d n = own_hours s at n j l week in
      let r = own_split s at n j l in
      let o : Ordered 0 (ps ++ (exception_period s at j ∷ r.0)) = rw (h ∙ r.1) at (valid.ordered d) in
      let m : rank (exceptions_on s at d (j + 1)) 1440 ≤ rank (exceptions_on s at d n) 1440 = rw e at (on_more week s at valid d (j + 1) (n - (j + 1))) in
      hand_select (hours_on week s at n) d (valid.ordered d) (exceptions_on s at d n) (sym h) (rank ps 1440 + x) ((exception_period s at j).from + x) (omega arith)
      (omega (arith, m, on_rank s at j))
      (sym (ap (λ (rs : List Period). select rs (rank ps 1440 + x)) r.1 ∙ select_after 0 ps (exception_period s at j) r.0 x o p (omega arith)))
