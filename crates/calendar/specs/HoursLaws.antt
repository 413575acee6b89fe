-- Laws of a day's hours in order: which minutes they hold, and what `rank`, `select` and `next_in` say of them.
use Rattle.std.specs.Prelude.{Option, Some, None, ◌≡◌, refl, true, false, ◌⊎◌, List, [], ◌∷◌, ℕ, ◌+◌, ◌-◌, min, max, ◌≤◌, ◌<◌}
use Rattle.std.proofs.Common.{sym, ◌∙◌, true≢false, inl, inr, ⊎_elim, arith, lt-ltb, le-ltb, le-leb}
use Rattle.std.proofs.lemmas.Bool.{lt-leb}
use Rattle.number.specs.Order.{lt_or_le, cases}
use Rattle.calendar.specs.declared.Period.{Period}
use Rattle.calendar.specs.Hours.{holds, held, Ordered, rank, select, next_in, works}

-- ---- one period
pub holds_in : (p : Period) (m : ℕ) → p.from ≤ m → m < p.to → holds p m ≡ true
holds_in p m f t = rw (le-leb p.from m f, lt-ltb m p.to t)

pub holds_before : (p : Period) (m : ℕ) → m < p.from → holds p m ≡ false
holds_before p m f = rw (lt-leb p.from m f)

pub holds_after : (p : Period) (m : ℕ) → p.to ≤ m → holds p m ≡ false
holds_after p m t = ⊎_elim (λ f. holds_before p m f) (λ f. rw (le-leb p.from m f, le-ltb m p.to t)) (lt_or_le m p.from)

pub holds_bounds : (p : Period) (m : ℕ) → holds p m ≡ true → (p.from ≤ m) × (m < p.to)
holds_bounds p m e =
    ⊎_elim (λ f. absurd (true≢false (sym e ∙ holds_before p m f)))
    (λ f. ⊎_elim (λ t. (f, t)) (λ t. absurd (true≢false (sym e ∙ holds_after p m t))) (lt_or_le m p.to)) (lt_or_le m p.from)

-- ---- held, a period at a time
module _ (p : Period) (ps : List Period) (m : ℕ) where
  pub held_here : holds p m ≡ true → held (p ∷ ps) m ≡ true
  unfolding held
  held_here e = rw e

  pub held_rest : holds p m ≡ false → held (p ∷ ps) m ≡ held ps m
  unfolding held
  held_rest e = rw e

  pub held_later : held ps m ≡ true → held (p ∷ ps) m ≡ true
  held_later e = ⊎_elim (λ h. held_here h) (λ h. held_rest h ∙ e) (cases (holds p m))

  pub held_cases : held (p ∷ ps) m ≡ true → ((p.from ≤ m) × (m < p.to)) ⊎ (held ps m ≡ true)
  held_cases e = ⊎_elim (λ h. inl (holds_bounds p m h)) (λ h. inr (sym (held_rest h) ∙ e)) (cases (holds p m))

pub held_nil : (m : ℕ) → held [] m ≡ true → ⊥
unfolding held
held_nil m e = true≢false (sym e)

-- a minute that is held is at or after where the hours may start, and within the day
pub held_from : (a : ℕ) (ps : List Period) (m : ℕ) → Ordered a ps → held ps m ≡ true → (a ≤ m) × (m < 1440)
held_from a [] m o w = absurd (held_nil m w)
held_from a (p ∷ ps) m o w =
    ⊎_elim (λ h. let k = o.1 (omega arith) in omega arith) (λ h. let k = held_from (max a p.to) ps m o.2 h in omega arith) (held_cases p ps m w)

pub held_day : (ps : List Period) (m : ℕ) → Ordered 0 ps → held ps m ≡ true → m < 1440
held_day ps m o w = (held_from 0 ps m o w).1

-- ---- rank counts the minutes held
pub rank_none : (a : ℕ) (ps : List Period) (m : ℕ) → Ordered a ps → m ≤ a → rank ps m ≡ 0
unfolding rank
rank_none a [] m o l = refl
rank_none a (p ∷ ps) m o l =
    let k = rank_none (max a p.to) ps m o.2 (omega arith) in
    ⊎_elim (λ t. omega (arith, o.1 t)) (λ t. omega arith) (lt_or_le 0 p.to)

pub rank_work : (a : ℕ) (ps : List Period) (m : ℕ) → Ordered a ps → held ps m ≡ true → rank ps (m + 1) ≡ rank ps m + 1
unfolding rank
rank_work a [] m o w = absurd (held_nil m w)
rank_work a (p ∷ ps) m o w =
    ⊎_elim
    (λ h. omega (arith, rank_none (max a p.to) ps m o.2 (omega arith), rank_none (max a p.to) ps (m + 1) o.2 (omega arith)))
    (λ h. omega (arith, rank_work (max a p.to) ps m o.2 h, held_from (max a p.to) ps m o.2 h)) (held_cases p ps m w)

pub rank_rest : (ps : List Period) (m : ℕ) → held ps m ≡ false → rank ps (m + 1) ≡ rank ps m
unfolding rank
rank_rest [] m n = refl
rank_rest (p ∷ ps) m n = ⊎_elim (λ h. absurd (true≢false (sym (held_here p ps m h) ∙ n))) (λ h. out h (rank_rest ps m (sym (held_rest p ps m h) ∙ n))) (cases (holds p m))
  where
    out : holds p m ≡ false → rank ps (m + 1) ≡ rank ps m → min (m + 1) p.to - p.from + rank ps (m + 1) ≡ min m p.to - p.from + rank ps m
    out h k =
        ⊎_elim (λ f. omega arith)
        (λ f. ⊎_elim (λ t. absurd (true≢false (sym (holds_in p m f t) ∙ h))) (λ t. omega arith) (lt_or_le m p.to))
        (lt_or_le m p.from)

pub rank_mono : (ps : List Period) (a b : ℕ) → a ≤ b → rank ps a ≤ rank ps b
unfolding rank
rank_mono [] a b l = omega arith
rank_mono (p ∷ ps) a b l = omega (arith, rank_mono ps a b l)

-- in order from minute a on, at most the minutes from a to m
pub rank_room : (a : ℕ) (ps : List Period) (m : ℕ) → Ordered a ps → rank ps m ≤ min m 1440 - a
unfolding rank
rank_room a [] m o = omega arith
rank_room a (p ∷ ps) m o =
    let k = rank_room (max a p.to) ps m o.2 in
    ⊎_elim (λ t. let q = o.1 t in omega arith) (λ t. omega arith) (lt_or_le 0 p.to)

pub rank_bound : (ps : List Period) (m : ℕ) → Ordered 0 ps → rank ps m ≤ 1440
rank_bound ps m o = omega (arith, rank_room 0 ps m o)

pub rank_bound_m : (ps : List Period) (m : ℕ) → Ordered 0 ps → rank ps m ≤ m
rank_bound_m ps m o = omega (arith, rank_room 0 ps m o)

-- the day is over by its end
pub rank_top : (a : ℕ) (ps : List Period) (m : ℕ) → Ordered a ps → rank ps (min m 1440) ≡ rank ps m
unfolding rank
rank_top a [] m o = refl
rank_top a (p ∷ ps) m o = omega (arith, rank_top (max a p.to) ps m o.2)

-- ---- select, a period at a time
module _ (p : Period) (ps : List Period) (k : ℕ) where
  pub select_in : k ≤ p.to - p.from → select (p ∷ ps) k ≡ p.from + k
  unfolding select
  select_in l = rw (le-leb k (p.to - p.from) l, select)

  pub select_past : p.to - p.from < k → select (p ∷ ps) k ≡ select ps (k - (p.to - p.from))
  unfolding select
  select_past l = rw (lt-leb k (p.to - p.from) l, select)

-- ---- what select finds: s is the first minute by which k are worked
pub record Selected (a : ℕ) (ps : List Period) (k s : ℕ) : Type 0 where
  pub low : a < s
  pub high : s ≤ 1440
  pub full : rank ps s ≡ k
  pub least : (u : ℕ) → u < s → rank ps u < k

beyond : (f t k s r : ℕ) → t - f < k → t ≤ s → r ≡ k - (t - f) → (min s t - f) + r ≡ k
beyond f t k s r x y z = omega arith

pub select_rank : (a : ℕ) (ps : List Period) (k : ℕ) → Ordered a ps → 0 < k → k ≤ rank ps 1440 → Selected a ps k (select ps k)
unfolding rank
select_rank a [] k o x y = omega arith
select_rank a (p ∷ ps) k o x y =
    ⊎_elim (λ t. there t (select_rank (max a p.to) ps (k - (p.to - p.from)) o.2 (omega arith) (omega arith))) here (lt_or_le (p.to - p.from) k)
  where
    empty : (u : ℕ) → u ≤ p.to → rank ps u ≡ 0
    empty u l = rank_none (max a p.to) ps u o.2 (omega arith)

    there : p.to - p.from < k → Selected (max a p.to) ps (k - (p.to - p.from)) (select ps (k - (p.to - p.from))) → Selected a (p ∷ ps) k (select (p ∷ ps) k)
    there t i =
        rw (select_past p ps k t)
        (record {
          low = omega (arith, i.low);
          high = i.high;
          full = beyond p.from p.to k _ _ t (omega (arith, i.low)) i.full;
          least = λ u l. ⊎_elim (λ v. omega (arith, empty u (omega arith))) (λ v. omega (arith, i.least u l)) (lt_or_le u p.to);
        })

    here : k ≤ p.to - p.from → Selected a (p ∷ ps) k (select (p ∷ ps) k)
    here t =
        let q = o.1 (omega arith) in
        rw (select_in p ps k t)
        (record {
          low = omega arith;
          high = omega arith;
          full = omega (arith, empty (p.from + k) (omega arith));
          least = λ u l. omega (arith, empty u (omega arith));
        })

pub select_day : (ps : List Period) (k : ℕ) → Ordered 0 ps → 0 < k → k ≤ rank ps 1440 → (0 < select ps k) × (select ps k ≤ 1440)
select_day ps k o x y = let r = select_rank 0 ps k o x y in (r.low, r.high)

-- ---- next_in, a period at a time
module _ (p : Period) (ps : List Period) (m : ℕ) where
  pub next_in_lem : m < p.to → next_in (p ∷ ps) m ≡ Some (max m p.from)
  unfolding next_in
  next_in_lem l = rw (lt-ltb m p.to l, next_in)

  pub next_past : p.to ≤ m → next_in (p ∷ ps) m ≡ next_in ps m
  unfolding next_in
  next_past l = rw (le-ltb m p.to l, next_in)

pub next_nil : (m : ℕ) → next_in [] m ≡ None
unfolding next_in
next_nil m = refl

-- ---- what next_in finds: the first minute held at or after m
abbrev pub NextIn : List Period → ℕ → Option ℕ → Type 0
NextIn ps m (Some s) = (m ≤ s) × (s < 1440) × (held ps s ≡ true) × ((u : ℕ) → m ≤ u → held ps u ≡ true → s ≤ u)
NextIn ps m None = (u : ℕ) → m ≤ u → held ps u ≡ true → ⊥

least_past : (p : Period) (ps : List Period) (m : ℕ) (r : Option ℕ) → p.to ≤ m → NextIn ps m r → NextIn (p ∷ ps) m r
least_past p ps m (Some s) t n =
    (n.0, n.1, held_later p ps s n.2, λ u l w. ⊎_elim (λ h. omega arith) (n.3 u l) (held_cases p ps u w))
least_past p ps m None t n = λ u l w. ⊎_elim (λ h. omega arith) (n u l) (held_cases p ps u w)

pub next_least : (a : ℕ) (ps : List Period) (m : ℕ) → Ordered a ps → NextIn ps m (next_in ps m)
next_least a [] m o = rw (next_nil m) (λ u l w. held_nil u w)
next_least a (p ∷ ps) m o = ⊎_elim ended (past (next_least (max a p.to) ps m o.2)) (lt_or_le m p.to)
  where
    past : NextIn ps m (next_in ps m) → p.to ≤ m → NextIn (p ∷ ps) m (next_in (p ∷ ps) m)
    past n t = rw (next_past p ps m t) (least_past p ps m (next_in ps m) t n)

    ended : m < p.to → NextIn (p ∷ ps) m (next_in (p ∷ ps) m)
    ended t =
        let k = o.1 (omega arith) in
        rw (next_in_lem p ps m t) (
          omega arith,
          omega arith,
          held_here p ps (max m p.from) (holds_in p (max m p.from) (omega arith) (omega arith)),
          λ u l w.
              ⊎_elim (λ h. omega arith) (λ h. let q = held_from (max a p.to) ps u o.2 h in omega arith) (held_cases p ps u w),
        )

pub next_at : (ps : List Period) (m s : ℕ) → Ordered 0 ps → next_in ps m ≡ Some s → NextIn ps m (Some s)
next_at ps m s o e = rw e at (next_least 0 ps m o)

pub next_nothing : (ps : List Period) (m : ℕ) → Ordered 0 ps → next_in ps m ≡ None → NextIn ps m None
next_nothing ps m o e = rw e at (next_least 0 ps m o)

-- ---- a day works exactly where some minute of it is held
module _ (p : Period) (ps : List Period) where
  pub works_here : p.from < p.to → works (p ∷ ps) ≡ true
  unfolding works
  works_here l = rw (lt-ltb p.from p.to l)

  pub works_rest : p.to ≤ p.from → works (p ∷ ps) ≡ works ps
  unfolding works
  works_rest l = rw (le-ltb p.from p.to l)

pub works_nil : works [] ≡ false
unfolding works
works_nil = refl

pub held_works : (ps : List Period) (m : ℕ) → held ps m ≡ true → works ps ≡ true
held_works [] m w = absurd (held_nil m w)
held_works (p ∷ ps) m w =
    ⊎_elim (λ l. works_here p ps l)
    (λ l. works_rest p ps l ∙ held_works ps m (⊎_elim (λ h. absurd (omega arith)) (λ h. h) (held_cases p ps m w))) (lt_or_le p.from p.to)

-- the minute by which a day works
pub record Held (ps : List Period) : Type 0 where
  pub minute : ℕ
  pub is : held ps minute ≡ true

pub works_held : (ps : List Period) → works ps ≡ true → Held ps
works_held [] e = absurd (true≢false (sym e ∙ works_nil))
works_held (p ∷ ps) e =
    ⊎_elim (λ l. record { minute = p.from; is = held_here p ps p.from (holds_in p p.from (omega arith) l) })
    (λ l. let r = works_held ps (sym (works_rest p ps l) ∙ e) in record { minute = r.minute; is = held_later p ps r.minute r.is })
    (lt_or_le p.from p.to)

-- and exactly where something is worked by its end
pub works_rank : (a : ℕ) (ps : List Period) → Ordered a ps → works ps ≡ true → 0 < rank ps 1440
works_rank a ps o e =
    let r = works_held ps e in
    let l = held_from a ps r.minute o r.is in
    omega (arith, rank_work a ps r.minute o r.is, rank_mono ps (r.minute + 1) 1440 (omega arith))

pub rests_rank : (ps : List Period) (m : ℕ) → works ps ≡ false → rank ps m ≡ 0
unfolding rank
rests_rank [] m e = refl
rests_rank (p ∷ ps) m e =
    ⊎_elim (λ l. absurd (true≢false (sym (works_here p ps l) ∙ e)))
    (λ l. omega (arith, rests_rank ps m (sym (works_rest p ps l) ∙ e))) (lt_or_le p.from p.to)
