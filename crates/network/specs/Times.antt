-- How often a number stands in a list, and sums: membership, distinctness and pigeonholes as equations between numbers, which `omega` reads.
use Rattle.std.specs.Prelude.{◌≡◌, refl, true, false, ◌⊎◌, ◌≢◌, List, [], ◌∷◌, ◌++◌, ℕ, zero, suc, ◌+◌, ◌≤◌, ◌<◌, eqb, length, get_or}
use Rattle.std.proofs.Common.{sym, ap, inl, inr, ⊎_elim, arith, eq-eqb, ne_eqb}
use Rattle.number.specs.Order.{lt_or_le, eq_or_ne}

-- 1 where the two are the same, 0 where they differ
unfoldable pub same : ℕ → ℕ → ℕ
same x y = elim (eqb x y) [ true ↦ 1 | false ↦ 0 ]

pub same_eq : {x y : ℕ} → x ≡ y → same x y ≡ 1
unfolding same
same_eq {x} {y} e = simp (same, eq-eqb x y e)

pub same_ne : {x y : ℕ} → x ≢ y → same x y ≡ 0
unfolding same
same_ne {x} {y} h = simp (same, ne_eqb x y h)

pub same_self : (x : ℕ) → same x x ≡ 1
same_self x = same_eq refl

pub same_cases : (x y : ℕ) → ((x ≡ y) × (same x y ≡ 1)) ⊎ ((x ≢ y) × (same x y ≡ 0))
same_cases x y = ⊎_elim (λ e. inl (e, same_eq e)) (λ h. inr (h, same_ne h)) (eq_or_ne x y)

unfoldable pub times : ℕ → List ℕ → ℕ
times x [] = 0
times x (y ∷ ys) = same x y + times x ys

pub times_nil : (x : ℕ) → times x [] ≡ 0
unfolding times
times_nil x = refl

pub times_cons : (x y : ℕ) (ys : List ℕ) → times x (y ∷ ys) ≡ same x y + times x ys
unfolding times
times_cons x y ys = refl

pub times_one : (x y : ℕ) → times x (y ∷ []) ≡ same x y
times_one x y = omega (arith, times_cons x y [], times_nil x)

pub times_append : (x : ℕ) (xs ys : List ℕ) → times x (xs ++ ys) ≡ times x xs + times x ys
unfolding times
times_append x [] ys = omega arith
times_append x (y ∷ xs) ys = omega (arith, times_append x xs ys)

-- what stands at a place stands in the list
pub times_at : (xs : List ℕ) (p : ℕ) → p < length xs → 0 < times (get_or xs p 0) xs
unfolding times
times_at [] p l = absurd (omega arith)
times_at (y ∷ ys) zero l = omega (arith, same_self y)
times_at (y ∷ ys) (suc p) l = omega (arith, times_at ys p (omega arith))

-- and what stands in the list stands at some place
pub times_place : (x : ℕ) (xs : List ℕ) → 0 < times x xs → (p : ℕ) × (p < length xs) × (get_or xs p 0 ≡ x)
unfolding times
times_place x [] h = absurd (omega arith)
times_place x (y ∷ ys) h =
    ⊎_elim (λ c. (0, omega arith, sym c.0))
    (λ c. let r = times_place x ys (omega arith) in (suc r.0, omega arith, r.2)) (same_cases x y)

-- ---- the sum of f below n

unfoldable pub sum : (ℕ → ℕ) → ℕ → ℕ
sum f zero = 0
sum f (suc n) = sum f n + f n

sum_add : (f g : ℕ → ℕ) (n : ℕ) → sum (λ j. f j + g j) n ≡ sum f n + sum g n
unfolding sum
sum_add f g zero = refl
sum_add f g (suc n) = omega (arith, sum_add f g n)

sum_same_out : (y n : ℕ) → n ≤ y → sum (λ j. same j y) n ≡ 0
unfolding sum
sum_same_out y zero l = refl
sum_same_out y (suc n) l =
    ⊎_elim (λ c. omega arith) (λ c. omega (arith, sum_same_out y n (omega arith))) (same_cases n y)

sum_same_in : (y n : ℕ) → y < n → sum (λ j. same j y) n ≡ 1
unfolding sum
sum_same_in y zero l = omega arith
sum_same_in y (suc n) l =
    ⊎_elim (λ c. omega (arith, sum_same_out y n (omega arith))) (λ c. omega (arith, sum_same_in y n (omega arith))) (same_cases n y)

sum_zero : (k : ℕ) → sum (λ j. 0) k ≡ 0
unfolding sum
sum_zero zero = refl
sum_zero (suc k) = omega (arith, sum_zero k)

-- a list of numbers below n: how often each stands there adds up to the length
pub sum_times : (n : ℕ) (xs : List ℕ) → ((j : ℕ) → n ≤ j → times j xs ≡ 0) → sum (λ j. times j xs) n ≡ length xs
unfolding times
sum_times n [] h = sum_zero n
sum_times n (y ∷ xs) h =
    let l : y < n = ⊎_elim (λ l. l) (λ l. absurd (omega (arith, h y l, same_self y))) (lt_or_le y n) in
    omega (arith, sum_add (λ j. same j y) (λ j. times j xs) n, sum_same_in y n l, sum_times n xs (λ j k. omega (arith, h j k)))

-- nothing above 1: no more than n
pub sum_le : (f : ℕ → ℕ) (n : ℕ) → ((j : ℕ) → j < n → f j ≤ 1) → sum f n ≤ n
unfolding sum
sum_le f zero h = omega arith
sum_le f (suc n) h = omega (arith, h n (omega arith), sum_le f n (λ j l. h j (omega arith)))

-- a sum that falls short has nothing at some place
pub sum_short : (f : ℕ → ℕ) (n : ℕ) → sum f n < n → (j : ℕ) × (j < n) × (f j ≡ 0)
unfolding sum
sum_short f zero l = absurd (omega arith)
sum_short f (suc n) l =
    ⊎_elim (λ p. let r = sum_short f n (omega arith) in (r.0, omega arith, r.2)) (λ z. (n, omega arith, omega arith)) (lt_or_le 0 (f n))

-- and a full one has 1 at each
pub sum_full : (f : ℕ → ℕ) (n : ℕ) → ((j : ℕ) → j < n → f j ≤ 1) → n ≤ sum f n → (j : ℕ) → j < n → f j ≡ 1
unfolding sum
sum_full f zero h l j k = omega arith
sum_full f (suc n) h l j k =
    ⊎_elim (λ p. sum_full f n (λ i q. h i (omega arith)) (omega (arith, h n (omega arith))) j p)
    (λ p. let e : j ≡ n = omega arith in omega (arith, h n (omega arith), sum_le f n (λ i q. h i (omega arith)), ap f e)) (lt_or_le j n)

-- ---- distinct numbers below n

pub record Distinct (n : ℕ) (xs : List ℕ) : Type 0 where
  pub once : (j : ℕ) → times j xs ≤ 1
  pub under : (j : ℕ) → n ≤ j → times j xs ≡ 0

pub distinct_nil : (n : ℕ) → Distinct n []
distinct_nil n = record { once = λ j. omega (arith, times_nil j); under = λ j l. times_nil j }

pub distinct_cons : {n v : ℕ} {xs : List ℕ} → v < n → times v xs ≡ 0 → Distinct n xs → Distinct n (v ∷ xs)
distinct_cons {v = v} {xs = xs} l e d = record {
  once = λ j.
      ⊎_elim (λ c. omega (arith, times_cons j v xs, ap (λ i. times i xs) c.0)) (λ c. omega (arith, times_cons j v xs, d.once j)) (same_cases j v);
  under = λ j m. ⊎_elim (λ c. omega arith) (λ c. omega (arith, times_cons j v xs, d.under j m)) (same_cases j v);
}

-- at most n of them
pub distinct_le : {n : ℕ} {xs : List ℕ} → Distinct n xs → length xs ≤ n
distinct_le {n} {xs} d = omega (arith, sum_times n xs d.under, sum_le (λ j. times j xs) n (λ j l. d.once j))

-- a number that stands once stands at one place
pub once_place : (xs : List ℕ) → ((j : ℕ) → times j xs ≤ 1) → (p q : ℕ) → p < length xs → q < length xs → get_or xs p 0 ≡ get_or xs q 0 → p ≡ q
unfolding times
once_place [] h p q a b e = absurd (omega arith)
once_place (y ∷ ys) h zero zero a b e = refl
once_place (y ∷ ys) h zero (suc q) a b e =
    absurd (omega (arith, h (get_or ys q 0), times_at ys q (omega arith), same_eq {x = get_or ys q 0} {y = y} (sym e)))
once_place (y ∷ ys) h (suc p) zero a b e =
    absurd (omega (arith, h (get_or ys p 0), times_at ys p (omega arith), same_eq {x = get_or ys p 0} {y = y} e))
once_place (y ∷ ys) h (suc p) (suc q) a b e =
    ap suc (once_place ys (λ j. omega (arith, h j)) p q (omega arith) (omega arith) e)
