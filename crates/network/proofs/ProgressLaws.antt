-- Kahn's order as loops over an array run it, step by step: whatever stores the counts and the order so ends with Kahn's order.
use Rattle.std.specs.Prelude.{◌≡◌, refl}
use Rattle.std.proofs.Math.Path.{sym, ap, ap₂}
use Rattle.std.proofs.Common.{◌∙◌}
use Rattle.std.proofs.Math.Logic.{⊎_elim}
use mathlib.Core.List.{List, [], ◌∷◌, ◌++◌}
use Prim.Native.Nat.{ℕ, zero, suc, ◌+◌, ◌-◌, ◌≤◌, ◌<◌, min}
use native.Mathlib.Omega.{arith}
use Rattle.number.specs.Order.{lt_or_le}
use Rattle.network.specs.Links.{Link, Linked}
use Rattle.network.specs.Kahn.{Waiting, put, joined, meet, release, drain}
use Rattle.network.specs.Times.{same, same_self, same_cases, times, times_nil, times_cons, Distinct, distinct_cons, distinct_le}
use Rattle.network.specs.Pending.{pending}
use Rattle.network.specs.PendingLaws.{pending_more, pending_pos, linked_sent}
use Rattle.network.specs.Outgoing.{targets, meet_all}
use Rattle.network.specs.OutgoingLaws.{release_targets, sent_targets, meet_all_cons}
use Rattle.network.proofs.Meeting.{put_lower, joined_last, joined_not}
use Rattle.network.specs.Draining.{next}
use Rattle.network.specs.Array.{out_of, span, held, Progress}
use Rattle.network.specs.ArrayLaws.{out_of_one, length_out_of, span_front, out_of_queue, out_of_times, out_of_agree, span_push, out_of_push}

-- one activity comes out
pub drain_step : (links : List Link) (f : ℕ) (c : ℕ → ℕ) (v : ℕ) (q out : List ℕ)
    → drain links (suc f) c (v ∷ q) out ≡ drain links f (release v links (record { count = c; queue = q })).count (release v links (record { count = c; queue = q })).queue (v ∷ out)
unfolding drain
drain_step links f c v q out = refl

-- none is left in the queue
pub drain_empty : (links : List Link) (f : ℕ) (c : ℕ → ℕ) (out : List ℕ) → drain links f c [] out ≡ record { count = c; out = out }
unfolding drain
drain_empty links zero c out = refl
drain_empty links (suc f) c out = refl

module _ {links : List Link} {n : ℕ} where
  module _ {order count : ℕ → ℕ} {h t : ℕ} {rest : List ℕ} (g : Progress links n order count h t rest) where
    apart : Distinct n (out_of order t)
    apart = record {
      once = λ j. ⊎_elim (λ l. omega (arith, g.each j l)) (λ l. omega (arith, g.beyond j l)) (lt_or_le j n);
      under = λ j l. omega (arith, g.beyond j l);
    }

    -- the array is long enough
    pub progress_le : t ≤ n
    progress_le = omega (arith, distinct_le apart, length_out_of order t)

    pub progress_below : (j : ℕ) → 0 < count j → j < n
    progress_below j p = ⊎_elim (λ l. l) (λ l. absurd (omega (arith, g.beyond j l))) (lt_or_le j n)

    -- also for one that still waits
    pub progress_room : (j : ℕ) → 0 < count j → t < n
    progress_room j p =
        let l = progress_below j p in omega (arith, distinct_le (distinct_cons l (omega (arith, g.each j l)) apart), length_out_of order t)

    -- what stands in the array is an activity, and waits for none
    pub progress_at : (p : ℕ) → p < t → (order p < n) × (count (order p) ≡ 0)
    progress_at p l =
        let o = out_of_times order t p l in
        let b : order p < n = ⊎_elim (λ k. k) (λ k. absurd (omega (arith, g.beyond (order p) k))) (lt_or_le (order p) n) in
        (b, omega (arith, g.each (order p) b))

  -- ---- the next of the queue comes out

  module _ {order count : ℕ → ℕ} {h t : ℕ} (g : Progress links n order count h t []) (l : h < t) where
    fresh : times (order h) (out_of order h) ≡ 0
    fresh =
        let b = progress_at g h l in
        omega (
          arith,
          g.each (order h) b.0,
          out_of_queue order (order h) h t g.within,
          ap (times (order h)) (span_front order h t l),
          times_cons (order h) (order h) (span order (h + 1) (t - (h + 1))),
          same_self (order h),
        )

    pub progress_enter : Progress links n order count (h + 1) t (targets links (order h))
    unfolding meet_all
    progress_enter =
        let b = progress_at g h l in
        let f : n - h ≡ suc (n - (h + 1)) = omega (arith, progress_le g) in
        let s : release (order h) links (held order count (h + 1) t) ≡ meet_all (targets links (order h)) (held order count (h + 1) t) =
        release_targets (order h) links (held order count (h + 1) t) in record {
          within = omega arith;
          each = g.each;
          beyond = g.beyond;
          waits = λ j.
              omega (
                arith,
                g.waits j,
                times_nil j,
                ap (λ (o : List ℕ). pending o links j) (out_of_one order h),
                pending_more (order h) (out_of order h) links j fresh,
                sent_targets (order h) links j,
              );
          behind =
              rw (out_of_one order h)
              (next
              (λ i (e : Linked links i (order h)).
              ⊎_elim (λ p. p)
              (λ z. absurd (omega (arith, b.1, g.waits (order h), pending_pos i (out_of order h) links (order h) (linked_sent e) (omega arith))))
              (lt_or_le 0 (times i (out_of order h)))) fresh g.behind);
          remains =
              ap (drain links (n - (h + 1)) (meet_all (targets links (order h)) (held order count (h + 1) t)).count (meet_all (targets links (order h)) (held order count (h + 1) t)).queue) (out_of_one order h)
              ∙ ap (λ (w : Waiting). drain links (n - (h + 1)) w.count w.queue (order h ∷ out_of order h)) (sym s)
              ∙ sym (drain_step links (n - (h + 1)) count (order h) (span order (h + 1) (t - (h + 1))) (out_of order h))
              ∙ ap₂ (λ (k : ℕ) (x : List ℕ). drain links k count x (out_of order h)) (sym f) (sym (span_front order h t l))
              ∙ g.remains;
        }

  -- ---- a link into j is met

  module _ {order count : ℕ → ℕ} {h t j : ℕ} {js : List ℕ} (g : Progress links n order count h t (j ∷ js)) where
    -- the count that is lowered is not 0
    pub progress_pos : 0 < count j
    progress_pos = omega (arith, g.waits j, times_cons j j js, same_self j)

    pub progress_target : j < n
    progress_target = progress_below g j progress_pos

    pub progress_space : t < n
    progress_space = progress_room g j progress_pos

    module _ (count' : ℕ → ℕ) (low : (x : ℕ) → count' x ≡ put count j (count j - 1) x) where
      falls : (x : ℕ) → count' x ≡ count x - same x j
      falls x = low x ∙ put_lower count j x

      waits' : (x : ℕ) → count' x ≡ pending (out_of order h) links x + times x js
      waits' x =
          ⊎_elim (λ c. omega (arith, falls x, g.waits x, times_cons x j js)) (λ c. omega (arith, falls x, g.waits x, times_cons x j js)) (same_cases x j)

      -- j waits for more
      pub progress_more : 1 < count j → Progress links n order count' h t js
      unfolding meet
      progress_more p =
          let e : meet j (held order count h t) ≡ held order count' h t =
          λ i. record { count = λ x. sym (low x) i; queue = joined_not (count j - 1) j (span order h (t - h)) (omega arith) i } in record {
            within = g.within;
            each = λ x l. omega (arith, g.each x l, level x);
            beyond = λ x l. omega (arith, g.beyond x l, level x);
            waits = waits';
            behind = g.behind;
            remains =
                ap (λ (w : Waiting). drain links (n - h) w.count w.queue (out_of order h))
                (sym (meet_all_cons j js (held order count h t) ∙ ap (meet_all js) e)) ∙ g.remains;
          }
        where
          level : (x : ℕ) → min 1 (count' x) ≡ min 1 (count x)
          level x = ⊎_elim (λ c. omega (arith, falls x, ap count c.0)) (λ c. omega (arith, falls x)) (same_cases x j)

      -- j waits for no more, and is put at the end
      pub progress_last : (order' : ℕ → ℕ) → count j ≡ 1 → order' t ≡ j → ((p : ℕ) → p < t → order' p ≡ order p) → Progress links n order' count' h (t + 1) js
      unfolding meet
      progress_last order' o at old =
          let q : joined (count j - 1) j (span order h (t - h)) ≡ span order' h (t + 1 - h) =
          joined_last (count j - 1) j (span order h (t - h)) (omega arith) ∙ ap (λ (x : ℕ). span order h (t - h) ++ (x ∷ [])) (sym at)
          ∙ sym (span_push order' order h t g.within old) in
          let e : meet j (held order count h t) ≡ held order' count' h (t + 1) = λ i. record { count = λ x. sym (low x) i; queue = q i } in record {
            within = omega (arith, g.within);
            each = λ x l. omega (arith, g.each x l, level x);
            beyond = λ x l. omega (arith, g.beyond x l, level x);
            waits = λ x. rw front (waits' x);
            behind = rw front g.behind;
            remains =
                ap (drain links (n - h) (meet_all js (held order' count' h (t + 1))).count (meet_all js (held order' count' h (t + 1))).queue) front
                ∙ ap (λ (w : Waiting). drain links (n - h) w.count w.queue (out_of order h))
                (sym (meet_all_cons j js (held order count h t) ∙ ap (meet_all js) e)) ∙ g.remains;
          }
        where
          front : out_of order' h ≡ out_of order h
          front = out_of_agree order' order h (λ p l. old p (omega (arith, g.within)))

          grown : out_of order' (t + 1) ≡ j ∷ out_of order t
          grown = out_of_push order' order h t g.within old ∙ ap (λ (x : ℕ). x ∷ out_of order t) at

          level : (x : ℕ) → times x (out_of order' (t + 1)) + min 1 (count' x) ≡ times x (out_of order t) + min 1 (count x)
          level x =
              ⊎_elim (λ c. omega (arith, falls x, ap count c.0, ap (times x) grown, times_cons x j (out_of order t)))
              (λ c. omega (arith, falls x, ap (times x) grown, times_cons x j (out_of order t))) (same_cases x j)
