-- What holds all through Kahn's order: each activity is out, in the queue or waiting, and what is out stands behind all that it is linked to.
use Rattle.std.specs.Prelude.{◌≡◌, length}
use Rattle.std.proofs.Common.{⊎_elim, arith, length-append}
use mathlib.Core.List.{List, [], ◌∷◌, ◌++◌}
use Prim.Native.Nat.{ℕ, zero, suc, ◌+◌, ◌≤◌, ◌<◌, min}
use Rattle.number.specs.Order.{lt_or_le}
use Rattle.network.specs.Links.{Link, Linked}
use Rattle.network.specs.Kahn.{release, drain, into, ready, drained}
use Rattle.network.specs.Times.{same_self, times, times_nil, times_cons, times_append, sum_times, sum_short, Distinct, distinct_le}
use Rattle.network.specs.Pending.{Ranged, sent, pending}
use Rattle.network.specs.PendingLaws.{pending_more, pending_pos, into_pending, into_beyond, linked_sent}
use Rattle.network.proofs.Meeting.{release_fell, ready_out, ready_in}
use Rattle.network.specs.Draining.{Behind, none, next}

module _ (links : List Link) (n : ℕ) where
  pub record Kept (count : ℕ → ℕ) (queue out : List ℕ) : Type 0 where
    pub each : (j : ℕ) → j < n → times j out + times j queue + min 1 (count j) ≡ 1
    pub beyond : (j : ℕ) → n ≤ j → times j out + times j queue + min 1 (count j) ≡ 0
    pub waits : (j : ℕ) → count j ≡ pending out links j
    pub behind : Behind links out

  pub kept_front : {c : ℕ → ℕ} {v : ℕ} {q out : List ℕ} → Kept c (v ∷ q) out → (v < n) × (times v out ≡ 0) × (c v ≡ 0)
  kept_front {c} {v} {q} {out} k =
      let o : 0 < times v (v ∷ q) = omega (arith, times_cons v v q, same_self v) in
      ⊎_elim (λ l. omega (arith, k.each v l)) (λ l. absurd (omega (arith, k.beyond v l))) (lt_or_le v n)

  -- the front of the queue comes out
  pub kept_step : {c : ℕ → ℕ} {v : ℕ} {q out : List ℕ} → Kept c (v ∷ q) out
      → Kept (release v links (record { count = c; queue = q })).count (release v links (record { count = c; queue = q })).queue (v ∷ out)
  kept_step {c} {v} {q} {out} k =
      let b = kept_front k in
      let more : (x : ℕ) → pending out links x ≡ pending (v ∷ out) links x + sent v links x = λ x. pending_more v out links x b.1 in
      let f = release_fell v links (record { count = c; queue = q }) (λ x. omega (arith, k.waits x, more x)) in record {
        each = λ j l. omega (arith, k.each j l, f.queued j, times_cons j v q, times_cons j v out);
        beyond = λ j l. omega (arith, k.beyond j l, f.queued j, times_cons j v q, times_cons j v out);
        waits = λ j. omega (arith, k.waits j, f.lower j, more j);
        behind =
            next
            (λ i (e : Linked links i v). ⊎_elim (λ p. p) (λ z. absurd (omega (arith, k.waits v, pending_pos i out links v (linked_sent e) (omega arith)))) (lt_or_le 0 (times i out)))
            b.1 k.behind;
      }

  -- what is out and what is in the queue are distinct and below n
  pub kept_le : {c : ℕ → ℕ} {q out : List ℕ} → Kept c q out → length out + length q ≤ n
  kept_le {c} {q} {out} k =
      let d : Distinct n (out ++ q) = record {
        once = λ j.
            ⊎_elim (λ l. omega (arith, k.each j l, times_append j out q)) (λ l. omega (arith, k.beyond j l, times_append j out q)) (lt_or_le j n);
        under = λ j l. omega (arith, k.beyond j l, times_append j out q);
      } in
      omega (arith, distinct_le d, length-append out q)

  -- n turns are enough for the queue to come to be empty
  drain_kept : (f : ℕ) (c : ℕ → ℕ) (q out : List ℕ) → Kept c q out → n ≤ f + length out
      → Kept (drain links f c q out).count [] (drain links f c q out).out
  unfolding drain
  drain_kept zero c [] out k l = k
  drain_kept zero c (v ∷ q) out k l = absurd (omega (arith, kept_le k))
  drain_kept (suc f) c [] out k l = k
  drain_kept (suc f) c (v ∷ q) out k l =
      drain_kept f (release v links (record { count = c; queue = q })).count (release v links (record { count = c; queue = q })).queue (v ∷ out)
      (kept_step k) (omega arith)

  module _ (range : Ranged links n) where
    pub kept_start : Kept (into links) (ready (into links) n) []
    kept_start = record {
      each = λ j l. omega (arith, ready_in (into links) n j l, times_nil j);
      beyond = λ j l. omega (arith, ready_out (into links) n j l, times_nil j, into_beyond range j l);
      waits = into_pending links;
      behind = none;
    }

    pub drained_kept : Kept (drained links n).count [] (drained links n).out
    unfolding drained
    drained_kept = drain_kept n (into links) (ready (into links) n) [] kept_start (omega arith)

-- ---- when the queue is empty

module _ {links : List Link} {n : ℕ} {c : ℕ → ℕ} {out : List ℕ} (k : Kept links n c [] out) where
  -- out or waiting
  pub out_or_waits : (j : ℕ) → j < n → times j out + min 1 (c j) ≡ 1
  out_or_waits j l = omega (arith, k.each j l, times_nil j)

  pub waits_below : (j : ℕ) → 0 < c j → j < n
  waits_below j p = ⊎_elim (λ l. l) (λ l. absurd (omega (arith, k.beyond j l))) (lt_or_le j n)

  pub out_distinct : Distinct n out
  out_distinct = record {
    once = λ j. ⊎_elim (λ l. omega (arith, k.each j l)) (λ l. omega (arith, k.beyond j l)) (lt_or_le j n);
    under = λ j l. omega (arith, k.beyond j l);
  }

  pub out_le : length out ≤ n
  out_le = distinct_le out_distinct

  -- where not all are out, one waits
  pub one_waits : length out < n → (j : ℕ) × (j < n) × (0 < c j)
  one_waits l =
      let r = sum_short (λ j. times j out) n (omega (arith, sum_times n out out_distinct.under)) in
      (r.0, r.1, omega (arith, out_or_waits r.0 r.1))
