-- `rank`, `select`, `next_in` and `works` a period at a time, as a loop over a day's periods goes.
use Rattle.std.specs.Prelude.{Option, Some, None, ◌≡◌, List, [], ◌∷◌, ℕ, zero, suc, ◌+◌, ◌-◌, min, max, ◌≤◌, ◌<◌, get_or, length, drop, ltb}
use Rattle.std.proofs.Common.{refl, sym, ap, ◌∙◌, ⊎_elim, arith, add-one, drop_of_length-le, drop-cons, lt-ltb, le-ltb, option_map}
use Rattle.std.specs.Option.{MatchOption, IsSomeAnd}
use Rattle.std.specs.List.{list_any, find, fold, sum, range_with_len}
use mathlib.Core.List.{map}
use Rattle.number.specs.Order.{lt_or_le}
use Rattle.calendar.specs.declared.Period.{Period}
use Rattle.calendar.specs.Hours.{none, Ordered, rank, select, next_in, works}
use Rattle.calendar.specs.HoursLaws.{select_in, select_past, next_in_lem, next_past}

pub rank_step : (ps : List Period) (i m : ℕ) (p : Period) → p ≡ get_or ps i none → i < length ps
    → rank (drop i ps) m ≡ (min m p.to - p.from) + rank (drop (i + 1) ps) m
unfolding rank
rank_step ps i m p e h = rw (e, add-one, drop-cons ps i none)

pub rank_end : (ps : List Period) (i m : ℕ) → length ps ≤ i → rank (drop i ps) m ≡ 0
unfolding rank
rank_end ps i m h = rw (drop_of_length-le ps h)

-- hours in order end within the day, each period of them
pub ordered_end : (a : ℕ) (ps : List Period) (i : ℕ) → Ordered a ps → (get_or ps i none).to ≤ 1440
ordered_end a [] i o = omega arith
ordered_end a (p ∷ ps) zero o = o.0
ordered_end a (p ∷ ps) (suc i) o = ordered_end (max a p.to) ps i o.2

module _ (ps : List Period) (i m : ℕ) (r : Option ℕ) (inv : next_in (drop i ps) m ≡ r) (p : Period) (e : p ≡ get_or ps i none) (h : i < length ps) where
  next_head : next_in (p ∷ drop (i + 1) ps) m ≡ r
  next_head = rw (e, add-one) (rw (drop-cons ps i none) at inv)

  pub next_here : m < p.to → Some (max m p.from) ≡ r
  next_here t = sym (next_in_lem p (drop (i + 1) ps) m t) ∙ next_head

  pub next_skip : p.to ≤ m → next_in (drop (i + 1) ps) m ≡ r
  next_skip t = sym (next_past p (drop (i + 1) ps) m t) ∙ next_head

pub next_end : (ps : List Period) (i m : ℕ) (r : Option ℕ) → next_in (drop i ps) m ≡ r → length ps ≤ i → None ≡ r
unfolding next_in
next_end ps i m r inv h = rw (drop_of_length-le ps h) at inv

module _ (ps : List Period) (i k r : ℕ) (inv : select (drop i ps) k ≡ r) (p : Period) (e : p ≡ get_or ps i none) (h : i < length ps) where
  select_head : select (p ∷ drop (i + 1) ps) k ≡ r
  select_head = rw (e, add-one) (rw (drop-cons ps i none) at inv)

  pub select_here : k ≤ p.to - p.from → p.from + k ≡ r
  select_here t = sym (select_in p (drop (i + 1) ps) k t) ∙ select_head

  pub select_skip : p.to - p.from < k → select (drop (i + 1) ps) (k - (p.to - p.from)) ≡ r
  select_skip t = sym (select_past p (drop (i + 1) ps) k t) ∙ select_head

pub select_end : (ps : List Period) (i k r : ℕ) → select (drop i ps) k ≡ r → length ps ≤ i → 0 ≡ r
unfolding select
select_end ps i k r inv h = rw (drop_of_length-le ps h) at inv

-- as a search among the places of the periods goes
pub works_from : (ps : List Period) (i n : ℕ) → i + n ≡ length ps → list_any (λ j. ltb (get_or ps j none).from (get_or ps j none).to) (range_with_len i n) ≡ works (drop i ps)
unfolding works
works_from ps i zero e = let h : length ps ≤ i = omega arith in rw (drop_of_length-le ps h)
works_from ps i (suc n) e = let h : i < length ps = omega arith in rw (works_from ps (i + 1) n (omega arith), add-one, drop-cons ps i none)

-- as a search among the places of the periods goes
pub next_from : (ps : List Period) (m i n : ℕ) → i + n ≡ length ps
    → option_map (λ p. max m p.from) (find (λ p. ltb m p.to) (map (λ j. get_or ps j none) (range_with_len i n))) ≡ next_in (drop i ps) m
unfolding next_in
next_from ps m i zero e = let h : length ps ≤ i = omega arith in rw (drop_of_length-le ps h) refl
next_from ps m i (suc n) e =
    let h : i < length ps = omega arith in
    let p = get_or ps i none in
    ⊎_elim
    (λ l. rw (drop-cons ps i none, lt-ltb m p.to l) (sym (next_in_lem _ _ m l)))
    (λ l. rw (le-ltb m p.to l, next_from ps m (i + 1) n (omega arith), add-one, drop-cons ps i none) (sym (next_past _ _ m l)))
    (lt_or_le m p.to)

-- and what comes of the period found
pub next_of : (m : ℕ) (o : Option Period) (r : Option ℕ) (Is : Period → ℕ → Type 0) → MatchOption o (r ≡ None) (λ p. IsSomeAnd r (Is p)) → ((p : Period) (k : ℕ) → Is p k → k ≡ max m p.from)
    → r ≡ option_map (λ p. max m p.from) o
next_of m None r Is e is = e
next_of m (Some p) None Is e is = absurd e
next_of m (Some p) (Some k) Is e is = ap Some (is p k e)

-- and as a sum over them, onto what is summed already
rank_onto : (ps : List Period) (m i n a : ℕ) → i + n ≡ length ps
    → fold (λ b k. b + k) a (map (λ j. min m (get_or ps j none).to - (get_or ps j none).from) (range_with_len i n)) ≡ a + rank (drop i ps) m
rank_onto ps m i zero a e = omega (arith, rank_end ps i m (omega arith))
rank_onto ps m i (suc n) a e = rank_onto ps m (i + 1) n _ (omega arith) ∙ omega (arith, rank_step ps i m (get_or ps i none) refl (omega arith))

pub rank_from : (ps : List Period) (m i n : ℕ) → i + n ≡ length ps → sum (map (λ j. min m (get_or ps j none).to - (get_or ps j none).from) (range_with_len i n)) ≡ rank (drop i ps) m
rank_from ps m i n e = rank_onto ps m i n 0 e ∙ omega arith

-- the lengths of periods in order sum to the rank at the day's end
work_onto : (ps : List Period) (f a : ℕ) → Ordered f ps → fold (λ b k. b + k) a (map (λ p. p.to - p.from) ps) ≡ a + rank ps 1440
unfolding rank
work_onto [] f a o = omega arith
work_onto (p ∷ ps) f a o = work_onto ps (max f p.to) _ o.2 ∙ omega (arith, o.0)

pub work_from : (ps : List Period) → Ordered 0 ps → sum (map (λ p. p.to - p.from) ps) ≡ rank ps 1440
work_from ps o = work_onto ps 0 0 o ∙ omega arith
