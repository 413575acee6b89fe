-- What meeting links does: counts fall by one for each, and what has come to wait for none has joined the queue, once.
use Rattle.std.specs.Prelude.{◌≡◌, refl, ◌≢◌, List, [], ◌∷◌, ◌++◌, ℕ, zero, suc, ◌+◌, ◌-◌, ◌≤◌, ◌<◌, min}
use Rattle.std.proofs.Common.{ap, ⊎_elim, arith, eq-eqb, ne_eqb}
use Rattle.network.specs.Links.{Link}
use Rattle.network.specs.Kahn.{Waiting, put, joined, meet, release, ready}
use Rattle.network.specs.Times.{same, same_self, same_cases, times, times_nil, times_one, times_append}
use Rattle.network.specs.Pending.{gate, sent}
use Rattle.network.specs.PendingLaws.{gate_one, gate_zero}
use Rattle.network.specs.Outgoing.{targets, meet_all}
use Rattle.network.specs.OutgoingLaws.{release_targets, sent_targets}

pub put_same : (f : ℕ → ℕ) (j u : ℕ) → put f j u j ≡ u
unfolding put
put_same f j u = simp (put, eq-eqb j j refl)

pub put_other : (f : ℕ → ℕ) (j u x : ℕ) → x ≢ j → put f j u x ≡ f x
unfolding put
put_other f j u x h = simp (put, ne_eqb x j h)

-- the store that lowers a count
pub put_lower : (f : ℕ → ℕ) (j x : ℕ) → put f j (f j - 1) x ≡ f x - same x j
put_lower f j x =
    ⊎_elim (λ c. omega (arith, put_same f j (f j - 1), ap (put f j (f j - 1)) c.0, ap f c.0))
    (λ c. omega (arith, put_other f j (f j - 1) x c.0)) (same_cases x j)

pub joined_last : (k j : ℕ) (q : List ℕ) → k ≡ 0 → joined k j q ≡ q ++ (j ∷ [])
unfolding joined
joined_last k j q e = rw e

pub joined_not : (k j : ℕ) (q : List ℕ) → 0 < k → joined k j q ≡ q
unfolding joined
joined_not zero j q p = absurd (omega arith)
joined_not (suc k) j q p = refl

joined_times : (k j x : ℕ) (q : List ℕ) → times x (joined k j q) + gate (same x j) (min 1 k) ≡ times x q + same x j
unfolding joined
joined_times zero j x q =
    ⊎_elim (λ c. omega (arith, times_append x q (j ∷ []), times_one x j, gate_one 0 c.1))
    (λ c. omega (arith, times_append x q (j ∷ []), times_one x j, gate_zero 0 c.1)) (same_cases x j)
joined_times (suc k) j x q =
    ⊎_elim (λ c. omega (arith, gate_one (min 1 (suc k)) c.1)) (λ c. omega (arith, gate_zero (min 1 (suc k)) c.1)) (same_cases x j)

-- from s to s' the counts have fallen by d, and what waits for none has joined the queue
pub record Fell (s s' : Waiting) (d : ℕ → ℕ) : Type 0 where
  pub lower : (x : ℕ) → s'.count x + d x ≡ s.count x
  pub queued : (x : ℕ) → times x s'.queue + min 1 (s'.count x) ≡ times x s.queue + min 1 (s.count x)

pub meet_fell : (j : ℕ) (s : Waiting) → 0 < s.count j → Fell s (meet j s) (λ x. same x j)
unfolding meet
meet_fell j s p = record { lower = lower; queued = queued }
  where
    lower : (x : ℕ) → put s.count j (s.count j - 1) x + same x j ≡ s.count x
    lower x = ⊎_elim (λ c. omega (arith, put_lower s.count j x, ap s.count c.0)) (λ c. omega (arith, put_lower s.count j x)) (same_cases x j)

    queued : (x : ℕ)
        → times x (joined (s.count j - 1) j s.queue) + min 1 (put s.count j (s.count j - 1) x) ≡ times x s.queue + min 1 (s.count x)
    queued x =
        ⊎_elim
        (λ c. omega (arith, joined_times (s.count j - 1) j x s.queue, gate_one (min 1 (s.count j - 1)) c.1, put_lower s.count j x, ap s.count c.0))
        (λ c. omega (arith, joined_times (s.count j - 1) j x s.queue, gate_zero (min 1 (s.count j - 1)) c.1, put_lower s.count j x))
        (same_cases x j)

-- no count that is lowered is 0
pub meet_all_fell : (js : List ℕ) (s : Waiting) → ((x : ℕ) → times x js ≤ s.count x) → Fell s (meet_all js s) (λ x. times x js)
unfolding meet_all times
meet_all_fell [] s h = record { lower = λ x. omega arith; queued = λ x. refl }
meet_all_fell (j ∷ js) s h =
    let f = meet_fell j s (omega (arith, h j, same_self j)) in
    let g = meet_all_fell js (meet j s) (λ x. omega (arith, h x, f.lower x)) in
    record { lower = λ x. omega (arith, f.lower x, g.lower x); queued = λ x. omega (arith, f.queued x, g.queued x) }

pub release_fell : (v : ℕ) (ls : List Link) (s : Waiting) → ((x : ℕ) → sent v ls x ≤ s.count x) → Fell s (release v ls s) (sent v ls)
release_fell v ls s h =
    let f = meet_all_fell (targets ls v) s (λ x. omega (arith, h x, sent_targets v ls x)) in
    rw (release_targets v ls s) (record { lower = λ x. omega (arith, f.lower x, sent_targets v ls x); queued = f.queued })

-- ---- those that wait for none

pub ready_suc : (c : ℕ → ℕ) (n : ℕ) → ready c (suc n) ≡ joined (c n) n (ready c n)
unfolding ready
ready_suc c n = refl

pub ready_out : (c : ℕ → ℕ) (m j : ℕ) → m ≤ j → times j (ready c m) ≡ 0
unfolding ready
ready_out c zero j l = times_nil j
ready_out c (suc m) j l =
    ⊎_elim (λ e. omega arith) (λ e. omega (arith, joined_times (c m) m j (ready c m), ready_out c m j (omega arith))) (same_cases j m)

pub ready_in : (c : ℕ → ℕ) (m j : ℕ) → j < m → times j (ready c m) + min 1 (c j) ≡ 1
unfolding ready
ready_in c zero j l = omega arith
ready_in c (suc m) j l =
    ⊎_elim
    (λ e. omega (arith, joined_times (c m) m j (ready c m), ready_out c m j (omega arith), gate_one (min 1 (c m)) e.1, ap c e.0))
    (λ e. omega (arith, joined_times (c m) m j (ready c m), ready_in c m j (omega arith), gate_zero (min 1 (c m)) e.1))
    (same_cases j m)
