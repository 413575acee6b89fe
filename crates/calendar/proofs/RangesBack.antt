-- std's `first_from_Range` for a range that is gone through from its end.
use Rattle.std.proofs.Common.{arith, Option, Some, None, Bool, true, false, List, [], ◌∷◌, ℕ, zero, suc, ◌≡◌, refl, ◌∙◌, subst, ◌+◌, ◌-◌, ◌≤◌, ◌<◌, length, get_or, Bor}
use denote.Param.Members.{Mut}
use Rattle.std.specs.Option.{MatchOption}
use Rattle.std.specs.Bool.{⊤}
use Rattle.std.specs.Fn.{CalledAt}
use Rattle.std.specs.Iterator.{YieldsThen}
use Rattle.std.specs.Iterator.Adapters.{rev_source, rev_steps}
use Rattle.std.specs.List.{FoldsTo, AllWithin, HoldsAt}
use Rattle.std.specs.declared.ops.Range.{Range}
use Rattle.std.specs.declared.iter.Rev.{Rev}
use Rattle.std.proofs.lemmas.Iterator.{YieldsList, first_from_find}
use Rattle.std.proofs.lemmas.Iterator.Consumers.{YieldsList-from_shown}
use Rattle.std.specs.Range.{range_steps_back}

-- what std says of a range's `next_back`, at these numbers
abbrev pub downward : Range ℕ → Option ℕ → Range ℕ → Type 0
downward = range_steps_back (λ a b. b - a) (λ a b. b ≡ a + 1)

-- the n numbers from a on, from the last
abbrev counted_down : ℕ → ℕ → List ℕ
counted_down a zero = []
counted_down a (suc n) = (a + n) ∷ counted_down a n

counted_length : (a n : ℕ) → length (counted_down a n) ≡ n
counted_length a zero = refl
counted_length a (suc n) = omega (arith, counted_length a n)

counted_at : (a n i d : ℕ) → i < n → get_or (counted_down a n) i d + i + 1 ≡ a + n
counted_at a zero i d l = absurd (omega arith)
counted_at a (suc n) zero d l = omega arith
counted_at a (suc n) (suc i) d l = omega (arith, counted_at a n i d (omega arith))

counted_step : (a n b m x : ℕ) → b ≡ a → x ≡ a + m → n ≡ suc m → counted_down a n ≡ x ∷ counted_down b m
counted_step a n b m x e f g = rw (g, e, f) refl

-- the numbers that are left
abbrev left : Rev (Range ℕ) → List ℕ
left s = let r = rev_source s in counted_down r.start (r.end - r.start)

pub last_from_Range : {F : Type 0} {g : Mut F (Bor ℕ × Unit {0}) Bool} (s u : Rev (Range ℕ)) (f : F) (low high : ℕ) → rev_source s ≡ record { start = low; end = high } → (r : Option ℕ) (Yes No : ℕ → Type 0)
    → (xs : List ℕ) × (j : F) × YieldsThen (rev_steps downward) s xs r u × FoldsTo (λ p x q. CalledAt g p x false q) f xs j × MatchOption r ⊤ (λ x. (h : F) × CalledAt g j x true h)
    → ((x : ℕ) (q : F) → CalledAt g f x true q → Yes x) → ((x : ℕ) (q : F) → CalledAt g f x false q → (q ≡ f) × No x)
    → MatchOption r ((k : ℕ) → low ≤ k → k < high → No k) (λ i. (low ≤ i) × (i < high) × Yes i × ((k : ℕ) → i < k → k < high → No k))
last_from_Range s u f low high is r Yes No ran yes' no' = by r (first_from_find u f r Yes No ran listed yes' no')
  where
    all : List ℕ
    all = counted_down low (high - low)

    listed : YieldsList (rev_steps downward) (λ x. x) s all
    listed =
        subst (λ (k : Range ℕ). YieldsList (rev_steps downward) (λ x. x) s (counted_down k.start (k.end - k.start))) is
        (YieldsList-from_shown (rev_steps downward) (λ x. x) left
        (λ t v p. counted_length (rev_source t).start ((rev_source t).end - (rev_source t).start) ∙ p.1.0)
        (λ t x v p. counted_step _ _ _ _ x p.0 (omega (arith, p.0, p.1.0, p.1.1, p.1.2)) (omega (arith, p.0, p.1.0, p.1.2))) s)

    long : length all ≡ high - low
    long = counted_length low (high - low)

    above : (n : ℕ) → n ≤ high - low → AllWithin No all 0 n → (k : ℕ) → k < high → high ≤ k + n → No k
    above n l h k a b =
        subst No {x = get_or all (high - 1 - k) 0} {y = k} (omega (arith, counted_at low (high - low) (high - 1 - k) 0 (omega arith)))
        (h (high - 1 - k) 0 (omega arith) (omega arith))

    by : (o : Option ℕ) → MatchOption o (AllWithin No all 0 (length all)) (λ x. Yes x × (i : ℕ) × (i < length all) × HoldsAt (λ y. y ≡ x) all i × AllWithin No all 0 i)
        → MatchOption o ((k : ℕ) → low ≤ k → k < high → No k) (λ i. (low ≤ i) × (i < high) × Yes i × ((k : ℕ) → i < k → k < high → No k))
    by None h = λ k a b. above (length all) (omega (arith, long)) h k b (omega (arith, long))
    by (Some x) h =
        let at = counted_at low (high - low) h.1 0 (omega (arith, h.2, long)) in
        let is-x = h.3 0 in
        (omega (arith, at, is-x, long, h.2), omega (arith, at, is-x, long, h.2), h.0, λ k a b. above h.1 (omega (arith, h.2, long)) h.4 k b (omega (arith, at, is-x)))
