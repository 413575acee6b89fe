-- Before the loop over the queue and after it: the array filled with those that wait for none, and at the end with Kahn's order.
use Rattle.std.proofs.Math.Path.{◌≡◌, sym, ap, ap₂}
use Rattle.std.proofs.Common.{◌∙◌, ⊎_elim}
use mathlib.Core.List.{List, [], ◌∷◌, ◌++◌, reverse}
use Prim.Native.Nat.{ℕ, ◌+◌, ◌-◌, ◌≤◌, ◌<◌}
use native.Mathlib.Omega.{arith}
use Rattle.std.specs.Prelude.{length, get_or}
use Rattle.number.specs.Order.{lt_or_le}
use Rattle.network.specs.Links.{Link}
use Rattle.network.specs.Kahn.{Drained, drain, into, ready, drained, kahn}
use Rattle.network.specs.Times.{times, times_nil, Distinct, distinct_le}
use Rattle.network.specs.Pending.{Ranged, pending}
use Rattle.network.specs.PendingLaws.{into_pending, into_beyond}
use Rattle.network.specs.Outgoing.{meet_all}
use Rattle.network.proofs.Meeting.{ready_in, ready_out}
use Rattle.network.specs.Draining.{none}
use Rattle.network.specs.Array.{out_of, span, Progress, Filled}
use Rattle.network.specs.ArrayLaws.{out_of_nil, length_span, span_at, span_empty, out_of_queue, reverse_out_of, span_push}
use Rattle.network.proofs.Prefix.{ready_zero, ready_hit, ready_miss}
use Rattle.network.proofs.ProgressLaws.{drain_empty}

-- ---- filling

pub filled_start : (count order : ℕ → ℕ) → Filled count order 0 0
unfolding span
filled_start count order = record { list = sym (ready_zero count) }

ready_le : (c : ℕ → ℕ) (m : ℕ) → length (ready c m) ≤ m
ready_le c m =
    let d : Distinct m (ready c m) = record {
      once = λ j. ⊎_elim (λ l. omega (arith, ready_in c m j l)) (λ l. omega (arith, ready_out c m j l)) (lt_or_le j m);
      under = ready_out c m;
    } in
    distinct_le d

module _ {count order : ℕ → ℕ} {m t : ℕ} (f : Filled count order m t) where
  pub filled_le : t ≤ m
  filled_le = omega (arith, length_span order 0 t, ap length f.list, ready_le count m)

  pub filled_skip : 0 < count m → Filled count order (m + 1) t
  filled_skip p = record { list = f.list ∙ sym (ready_miss count m p) }

  pub filled_push : count m ≡ 0 → (order' : ℕ → ℕ) → order' t ≡ m → ((p : ℕ) → p < t → order' p ≡ order p) → Filled count order' (m + 1) (t + 1)
  filled_push z order' at old = record {
    list =
        ap (span order' 0) (minus_zero (t + 1)) ∙ span_push order' order 0 t (omega arith) old
        ∙ ap₂ (λ (k x : ℕ). span order 0 k ++ (x ∷ [])) (sym (minus_zero t)) at ∙ ap (λ (l : List ℕ). l ++ (m ∷ [])) f.list ∙ sym (ready_hit count m z);
  }
    where
      minus_zero : (k : ℕ) → k ≡ k - 0
      minus_zero k = omega arith

-- ---- the two ends

module _ {links : List Link} {n : ℕ} (range : Ranged links n) where
  pub progress_start : {count order : ℕ → ℕ} {t : ℕ} → ((x : ℕ) → count x ≡ into links x) → Filled count order n t → Progress links n order count 0 t []
  unfolding meet_all drained
  progress_start {count} {order} {t} c f =
      let all : ◌≡◌ {A = ℕ → ℕ} count (into links) = λ i x. c x i in
      let back : (k : ℕ) → k - 0 ≡ k = λ k. omega arith in
      let same_times : (j : ℕ) → times j (out_of order t) ≡ times j (ready count n) =
      λ j. omega (arith, out_of_queue order j 0 t (omega arith), ap (times j) (out_of_nil order), times_nil j, ap (λ (k : ℕ). times j (span order 0 k)) (back t), ap (times j) f.list) in record {
        within = omega arith;
        each = λ j l. omega (arith, same_times j, ready_in count n j l);
        beyond = λ j l. omega (arith, same_times j, ready_out count n j l, c j, into_beyond range j l);
        waits = λ j. omega (arith, c j, into_pending links j, times_nil j, ap (λ (o : List ℕ). pending o links j) (out_of_nil order));
        behind = rw (out_of_nil order) none;
        remains =
            ap₂ (λ (k : ℕ) (q : List ℕ). drain links k count q (out_of order 0)) (back n) (ap (span order 0) (back t) ∙ f.list)
            ∙ ap (λ (o : List ℕ). drain links n count (ready count n) o) (out_of_nil order) ∙ ap (λ (d : ℕ → ℕ). drain links n d (ready d n) []) all;
      }

module _ {links : List Link} {n : ℕ} {order count : ℕ → ℕ} {t : ℕ} (g : Progress links n order count t t []) where
  pub progress_drained : drained links n ≡ record { count = count; out = out_of order t }
  unfolding meet_all
  progress_drained =
      sym g.remains ∙ ap (λ (q : List ℕ). drain links (n - t) count q (out_of order t)) (span_empty order t t (omega arith))
      ∙ drain_empty links (n - t) count (out_of order t)

  -- the counts that are left
  pub progress_count : (drained links n).count ≡ count
  progress_count = ap (λ (d : Drained). d.count) progress_drained

  -- and the order
  pub progress_kahn : kahn links n ≡ span order 0 t
  unfolding kahn
  progress_kahn = ap (λ (d : Drained). reverse d.out) progress_drained ∙ reverse_out_of order t

  pub progress_length : length (kahn links n) ≡ t
  progress_length = ap length progress_kahn ∙ length_span order 0 t

  pub progress_at_kahn : (p : ℕ) → p < t → get_or (kahn links n) p 0 ≡ order p
  progress_at_kahn p l = ap (λ (xs : List ℕ). get_or xs p 0) progress_kahn ∙ span_at order 0 t p l ∙ ap order (omega arith)
