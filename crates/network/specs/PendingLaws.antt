-- What is pending, by what is out; and that links counted are links.
use Rattle.std.specs.Prelude.{◌≡◌, refl, true, false, List, [], ◌∷◌, ◌++◌, ℕ, zero, suc, ◌+◌, ◌-◌, ◌≤◌, ◌<◌, eqb, length, get_or}
use Rattle.std.proofs.Common.{sym, ap, ◌∙◌, ⊎_elim, arith, eq-eqb, ne_eqb}
use Rattle.number.specs.Order.{lt_or_le}
use Rattle.network.specs.Links.{Link, no_link, Linked}
use Rattle.network.specs.Kahn.{into}
use Rattle.network.specs.Times.{same, same_eq, same_self, same_cases, times, times_nil, times_cons}
use Rattle.network.specs.Pending.{Ranged, gate, sent, pending}

pub gate_one : {m : ℕ} (k : ℕ) → m ≡ 1 → gate m k ≡ k
unfolding gate
gate_one k e = rw e

pub gate_zero : {m : ℕ} (k : ℕ) → m ≡ 0 → gate m k ≡ 0
unfolding gate
gate_zero k e = rw e

pub sent_nil : (v x : ℕ) → sent v [] x ≡ 0
unfolding sent
sent_nil v x = refl

pub sent_append : (v : ℕ) (xs ys : List Link) (x : ℕ) → sent v (xs ++ ys) x ≡ sent v xs x + sent v ys x
unfolding sent
sent_append v [] ys x = omega arith
sent_append v (l ∷ xs) ys x = omega (arith, sent_append v xs ys x)

-- once v is out too, less is pending by what v sends
pub pending_more : (v : ℕ) (out : List ℕ) (ls : List Link) (x : ℕ) → times v out ≡ 0 → pending out ls x ≡ pending (v ∷ out) ls x + sent v ls x
unfolding pending sent
pending_more v out [] x e = refl
pending_more v out (l ∷ ls) x e =
    let a : ℕ = 1 - times l.from out in
    let b : ℕ = 1 - times l.from (v ∷ out) in
    let m : ℕ = same l.from v in
    ⊎_elim
    (λ c. omega (arith, pending_more v out ls x e, gate_one a c.1, gate_one b c.1, gate_one m c.1, inner))
    (λ c. omega (arith, pending_more v out ls x e, gate_zero a c.1, gate_zero b c.1, gate_zero m c.1)) (same_cases x l.to)
  where
    inner : 1 - times l.from out ≡ (1 - times l.from (v ∷ out)) + same l.from v
    inner =
        ⊎_elim (λ c. omega (arith, times_cons l.from v out, ap (λ i. times i out) c.0)) (λ c. omega (arith, times_cons l.from v out))
        (same_cases l.from v)

-- what waits has a predecessor that is not out
pub pending_source : (out : List ℕ) (ls : List Link) (x : ℕ) → 0 < pending out ls x → (i : ℕ) × (0 < sent i ls x) × (times i out ≡ 0)
unfolding pending sent
pending_source out [] x h = absurd (omega arith)
pending_source out (l ∷ ls) x h =
    ⊎_elim
    (λ p.
    ⊎_elim
    (λ c. (
      l.from,
      omega (arith, gate_one (same l.from l.from) c.1, same_self l.from),
      omega (arith, gate_one (1 - times l.from out) c.1),
    )) (λ c. absurd (omega (arith, gate_zero (1 - times l.from out) c.1))) (same_cases x l.to))
    (λ z. let r = pending_source out ls x (omega arith) in (r.0, omega arith, r.2))
    (lt_or_le 0 (gate (same x l.to) (1 - times l.from out)))

-- what has a predecessor that is not out waits
pub pending_pos : (i : ℕ) (out : List ℕ) (ls : List Link) (x : ℕ) → 0 < sent i ls x → times i out ≡ 0 → 0 < pending out ls x
pending_pos i out ls x s z = omega (arith, pending_more i out ls x z)

-- with nothing out all links into x are pending
pub into_pending : (ls : List Link) (x : ℕ) → into ls x ≡ pending [] ls x
unfolding into pending
into_pending [] x = refl
into_pending (l ∷ ls) x =
    let m = 1 - times l.from [] in
    ⊎_elim
    (λ c. let e : eqb l.to x ≡ true = eq-eqb l.to x (sym c.0) in
    simp (into, e) (omega (arith, into_pending ls x, times_nil l.from, gate_one m c.1)))
    (λ c. let e : eqb l.to x ≡ false = ne_eqb l.to x (λ q. c.0 (sym q)) in
    simp (into, e) (omega (arith, into_pending ls x, gate_zero m c.1))) (same_cases x l.to)

-- ---- links counted are links

pub linked_cons : {l : Link} {ls : List Link} {i j : ℕ} → Linked ls i j → Linked (l ∷ ls) i j
linked_cons e = record { place = suc e.place; within = omega (arith, e.within); leaves = e.leaves; enters = e.enters }

pub sent_linked : (ls : List Link) (i j : ℕ) → 0 < sent i ls j → Linked ls i j
unfolding sent
sent_linked [] i j h = absurd (omega arith)
sent_linked (l ∷ ls) i j h =
    ⊎_elim
    (λ c. ⊎_elim (λ d. record { place = 0; within = omega arith; leaves = d.0; enters = sym c.0 })
    (λ d. linked_cons (sent_linked ls i j (omega (arith, gate_one (same l.from i) c.1)))) (same_cases l.from i))
    (λ c. linked_cons (sent_linked ls i j (omega (arith, gate_zero (same l.from i) c.1)))) (same_cases j l.to)

pub linked_sent : {ls : List Link} {i j : ℕ} → Linked ls i j → 0 < sent i ls j
unfolding sent
linked_sent {ls} {i} {j} e = go ls e.place e.within e.leaves e.enters
  where
    go : (ls : List Link) (k : ℕ) → k < length ls → (get_or ls k no_link).from ≡ i → (get_or ls k no_link).to ≡ j → 0 < sent i ls j
    go [] k l a b = absurd (omega arith)
    go (l ∷ ls) zero h a b = omega (arith, gate_one (same l.from i) (same_eq {x = j} {y = l.to} (sym b)), same_eq a)
    go (l ∷ ls) (suc k) h a b = omega (arith, go ls k (omega arith) a b)

module _ {links : List Link} {n : ℕ} (range : Ranged links n) where
  pub linked_from_lem : {i j : ℕ} → Linked links i j → i < n
  linked_from_lem e = omega (arith, range.leaves e.place e.within, e.leaves)

  pub linked_to : {i j : ℕ} → Linked links i j → j < n
  linked_to e = omega (arith, range.enters e.place e.within, e.enters)

  -- nothing leads beyond n
  pub pending_beyond : (out : List ℕ) (x : ℕ) → n ≤ x → pending out links x ≡ 0
  pending_beyond out x l =
      ⊎_elim (λ p. let r = pending_source out links x p in absurd (omega (arith, linked_to (sent_linked links r.0 x r.1))))
      (λ z. omega arith) (lt_or_le 0 (pending out links x))

  pub into_beyond : (x : ℕ) → n ≤ x → into links x ≡ 0
  into_beyond x l = into_pending links x ∙ pending_beyond [] x l
