-- Loops of parents: n steps decide whether an activity lies on one, and where none does every climb ends.
use Rattle.std.specs.Prelude.{◌≡◌, ◌≢◌, ◌↔◌, ℕ, zero, suc, ◌+◌, ◌-◌, ◌≤◌, ◌<◌}
use Rattle.std.proofs.Common.{sym, ◌∙◌}
use Rattle.std.proofs.Math.Path.{ap}
use Rattle.std.proofs.Math.Logic.{⊎_elim}
use mathlib.Core.List.{[]}
use native.Mathlib.Omega.{arith}
use Rattle.number.specs.Order.{lt_or_le, zero_or_pos}
use Rattle.network.specs.Kahn.{first_waiting}
use Rattle.network.specs.Parents.{climb, OnLoop, steps_back, loop_steps}
use Rattle.network.specs.ParentLinks.{ParentsLoop, first_on_loop}
use Rattle.network.specs.Times.{distinct_le}
use Rattle.network.proofs.GoingBack.{First, first_waiting_first, first_waiting_none}
use Rattle.network.specs.Climbing.{pos_suc, climb_zero, climb_add, climb_none_le, climb_pos, climb_same, Least, steps_back_cases, length_passed, climb_le, passed_distinct}

module _ (parent : ℕ → ℕ) where
  -- where loop_steps is not 0 it leads from i to i, and no fewer steps do
  pub loop_steps_lem : (n i : ℕ) → 0 < loop_steps parent n i → Least parent n 1 i (loop_steps parent n i)
  unfolding loop_steps
  loop_steps_lem n i p = ⊎_elim (λ r. r) (λ r. absurd (omega (arith, r.1))) (steps_back_cases parent n 1 i)

  pub loop_steps_back : (n i : ℕ) → 0 < loop_steps parent n i → climb parent (loop_steps parent n i) i ≡ suc i
  loop_steps_back n i p = (loop_steps_lem n i p).back

  pub loop_steps_le : (n i : ℕ) → loop_steps parent n i ≤ n
  loop_steps_le n i = ⊎_elim (λ z. omega arith) (λ p. omega (arith, (loop_steps_lem n i p).below)) (zero_or_pos (loop_steps parent n i))

  pub loop_steps_on : (n i : ℕ) → 0 < loop_steps parent n i → OnLoop parent i
  loop_steps_on n i p = record { steps = loop_steps parent n i; some = p; back = loop_steps_back n i p }

  -- two counts of steps that lead to the same activity: it lies on a loop
  pub same_on_loop : (i a b : ℕ) → a < b → 0 < climb parent a i → climb parent a i ≡ climb parent b i → OnLoop parent (climb parent a i - 1)
  same_on_loop i a b l p e =
      let s : climb parent a i ≡ suc (climb parent a i - 1) = pos_suc (climb parent a i) p in
      let t : b ≡ (b - a) + a = omega arith in record {
        steps = b - a;
        some = omega arith;
        back = sym (climb_add parent (b - a) a i (climb parent a i - 1) s) ∙ ap (λ (k : ℕ). climb parent k i) (sym t) ∙ sym e ∙ s;
      }

  -- ---- what climbs to none lies on no loop

  -- k times as many steps round a loop
  rounds : (i : ℕ) (o : OnLoop parent i) (k : ℕ) → (m : ℕ) × (k ≤ m) × (climb parent m i ≡ suc i)
  rounds i o zero = (0, omega arith, climb_zero parent i)
  rounds i o (suc k) =
      let r = rounds i o k in (o.steps + r.0, omega (arith, o.some), climb_add parent o.steps r.0 i i r.2 ∙ o.back)

  pub ends_not_on_loop : (i k : ℕ) → climb parent k i ≡ 0 → ¬ (OnLoop parent i)
  ends_not_on_loop i k e o = let r = rounds i o k in omega (arith, r.2, climb_none_le parent k r.0 i r.1 e)

  -- a climb that comes to where a climb ends, ends
  pub ends_on : (i j a b : ℕ) → climb parent a i ≡ suc j → climb parent b j ≡ 0 → climb parent (b + a) i ≡ 0
  ends_on i j a b e z = climb_add parent b a i j e ∙ z

  module _ {n : ℕ} (below : (i : ℕ) → i < n → parent i ≤ n) where
    -- a loop through i has at most n steps: loop_steps finds it
    pub on_loop_steps : (i : ℕ) → i < n → OnLoop parent i → 0 < loop_steps parent n i
    unfolding loop_steps
    on_loop_steps i l o =
        ⊎_elim (λ r. omega (arith, r.from))
        (λ never.
        ⊎_elim
        (λ (r : Least parent o.steps 1 i (steps_back parent o.steps 1 i)).
        let d = passed_distinct parent below (steps_back parent o.steps 1 i) i l
        (λ a h. climb_pos parent a (steps_back parent o.steps 1 i) i (omega arith) (omega (arith, r.back)))
        (λ a b g h e.
        let t : (steps_back parent o.steps 1 i - b) + b ≡ steps_back parent o.steps 1 i = omega arith in
        r.least ((steps_back parent o.steps 1 i - b) + a) (omega arith) (omega arith)
        (climb_same parent a b (steps_back parent o.steps 1 i - b) i e ∙ ap (λ (m : ℕ). climb parent m i) t ∙ r.back)) in
        absurd (never.0.never (steps_back parent o.steps 1 i) r.from
        (omega (arith, distinct_le d, length_passed parent (steps_back parent o.steps 1 i) i)) r.back))
        (λ r. absurd (r.0.never o.steps (omega (arith, o.some)) (omega arith) o.back)) (steps_back_cases parent o.steps 1 i))
        (steps_back_cases parent n 1 i)

    pub loop_steps_iff : (i : ℕ) → i < n → (0 < loop_steps parent n i) ↔ OnLoop parent i
    loop_steps_iff i l = (loop_steps_on n i, on_loop_steps i l)

    pub loop_steps_zero : (i : ℕ) → i < n → (loop_steps parent n i ≡ 0) ↔ (¬ (OnLoop parent i))
    loop_steps_zero i l = (
      λ z o. omega (arith, on_loop_steps i l o),
      λ h. ⊎_elim (λ z. z) (λ p. absurd (h (loop_steps_on n i p))) (zero_or_pos (loop_steps parent n i)),
    )

    -- ---- where none lies on a loop, n steps lead to none from each

    -- n + 1 activities passed cannot all differ
    apart_ends : (i : ℕ) → i < n → ((a b : ℕ) → a < b → b ≤ n → 0 < climb parent a i → climb parent a i ≢ climb parent b i) → climb parent n i ≡ 0
    apart_ends i l d =
        ⊎_elim (λ z. z)
        (λ p.
        let u = passed_distinct parent below (suc n) i l (λ a g. climb_pos parent a n i (omega arith) p)
        (λ a b g h. d a b g (omega arith) (climb_pos parent a n i (omega arith) p)) in
        absurd (omega (arith, distinct_le u, length_passed parent (suc n) i))) (zero_or_pos (climb parent n i))

    pub climb_ends : ¬ (ParentsLoop parent n) → (i : ℕ) → i < n → climb parent n i ≡ 0
    climb_ends h i l =
        apart_ends i l (λ a b g k q e. h (climb parent a i - 1, omega (arith, climb_le parent below a i l), same_on_loop i a b g q e))

    -- a climb that ends does so within n steps
    pub ends_within : (i k : ℕ) → i < n → climb parent k i ≡ 0 → climb parent n i ≡ 0
    ends_within i k l z =
        apart_ends i l
        (λ a b g h q e.
        let r : a < k = ⊎_elim (λ w. w) (λ w. absurd (omega (arith, climb_none_le parent k a i w z))) (lt_or_le a k) in
        let s : k ≡ (k - a) + a = omega arith in
        ends_not_on_loop (climb parent a i - 1) (k - a)
        (sym (climb_add parent (k - a) a i (climb parent a i - 1) (pos_suc (climb parent a i) q)) ∙ ap (λ (m : ℕ). climb parent m i) (sym s) ∙ z)
        (same_on_loop i a b g q e))

    pub parents_loop_iff : (¬ (ParentsLoop parent n)) ↔ ((i : ℕ) → i < n → climb parent n i ≡ 0)
    parents_loop_iff = (climb_ends, λ e o. ends_not_on_loop o.0 n (e o.0 o.1) o.2)

    -- ---- the first on a loop

    pub first_on_loop_lem : (i : ℕ) → i < n → OnLoop parent i → First [] (loop_steps parent n) n 0 (first_on_loop parent n)
    unfolding first_on_loop
    first_on_loop_lem i l o = first_waiting_first [] (loop_steps parent n) n 0 i (omega arith) (omega arith) (on_loop_steps i l o)

    pub first_on_loop_iff : ParentsLoop parent n ↔ (first_on_loop parent n < n)
    unfolding first_on_loop
    first_on_loop_iff = (
      λ o. omega (arith, (first_on_loop_lem o.0 o.1 o.2).below),
      λ l.
          ⊎_elim (λ p. (first_waiting [] (loop_steps parent n) n 0, l, loop_steps_on n (first_waiting [] (loop_steps parent n) n 0) p))
          (λ z. absurd (omega (arith, z))) (first_waiting_none [] (loop_steps parent n) n 0),
    )
