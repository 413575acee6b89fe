-- Kahn's order of n activities: all come out exactly where the links close no loop, and then in an order; else the loop that is named is one.
use Rattle.std.specs.Prelude.{◌≡◌, ◌↔◌, ℕ, ◌+◌, ◌≤◌, ◌<◌, get_or}
use Rattle.std.proofs.Common.{sym, ◌∙◌, ⊎_elim, arith}
use mathlib.Core.List.{List, []}
use Rattle.std.proofs.Math.ListN.{length}
use Rattle.std.proofs.lemmas.List.{length-reverse}
use Rattle.number.specs.Order.{lt_or_le}
use Rattle.network.specs.Links.{Link, Linked, Loop, CloseLoop, Ordered}
use Rattle.network.specs.Kahn.{drained, kahn, go_back, first_waiting, again, named_loop}
use Rattle.network.specs.Times.{times_at, Distinct, distinct_le, once_place}
use Rattle.network.specs.Pending.{Ranged}
use Rattle.network.proofs.Draining.{drained_kept, out_distinct, waits_below}
use Rattle.network.specs.Placed.{times_reverse, behind_before, ordered_no_loop}
use Rattle.network.proofs.NamedLoop.{Named, drained_named, again_length, again_at, again_times}

pub kahn_length : (links : List Link) (n : ℕ) → length (kahn links n) ≡ length (drained links n).out
unfolding kahn
kahn_length links n = length-reverse (drained links n).out

module _ {links : List Link} {n : ℕ} (range : Ranged links n) where
  -- what came out is distinct and below n, also where a loop is left
  pub kahn_distinct : Distinct n (kahn links n)
  unfolding kahn
  kahn_distinct =
      let d = out_distinct (drained_kept links n range) in record {
        once = λ j. omega (arith, times_reverse j (drained links n).out, d.once j);
        under = λ j l. omega (arith, times_reverse j (drained links n).out, d.under j l);
      }

  pub kahn_le : length (kahn links n) ≤ n
  kahn_le = distinct_le kahn_distinct

  pub kahn_below : (p : ℕ) → p < length (kahn links n) → get_or (kahn links n) p 0 < n
  kahn_below p l =
      ⊎_elim (λ h. h) (λ h. absurd (omega (arith, kahn_distinct.under (get_or (kahn links n) p 0) h, times_at (kahn links n) p l)))
      (lt_or_le (get_or (kahn links n) p 0) n)

  pub kahn_once : (p q : ℕ) → p < length (kahn links n) → q < length (kahn links n) → get_or (kahn links n) p 0 ≡ get_or (kahn links n) q 0 → p ≡ q
  kahn_once = once_place (kahn links n) kahn_distinct.once

  -- what is linked to one that came out came out before it
  pub kahn_before : (p i : ℕ) → p < length (kahn links n) → Linked links i (get_or (kahn links n) p 0)
      → (q : ℕ) × (q < p) × (get_or (kahn links n) q 0 ≡ i)
  unfolding kahn
  kahn_before p i l e = behind_before (drained_kept links n range).behind p i (omega (arith, kahn_length links n)) e

  pub kahn_ordered : length (kahn links n) ≡ n → Ordered links n (kahn links n)
  kahn_ordered e = record {
    all = e;
    below = λ p l. kahn_below p (omega arith);
    once = λ p q a b. kahn_once p q (omega arith) (omega arith);
    before = λ p i l. kahn_before p i (omega arith);
  }

  -- ---- where not all come out

  module _ (short : length (kahn links n) < n) where
    named : Named links (drained links n).count n (go_back links (drained links n).count n (first_waiting links (drained links n).count n 0) [])
    named = drained_named range (omega (arith, kahn_length links n))

    -- the loop that is named is a loop
    pub named_loop_lem : Loop links (named_loop links n)
    unfolding named_loop
    named_loop_lem = named.loop

    -- of at most n activities, and the first once more
    pub named_loop_le : length (named_loop links n) ≤ n + 1
    unfolding named_loop
    named_loop_le =
        let xs = go_back links (drained links n).count n (first_waiting links (drained links n).count n 0) [] in
        omega (arith, distinct_le named.distinct, again_length xs)

    -- each but the last at one place
    pub named_loop_once : (p q : ℕ) → p + 1 < length (named_loop links n) → q + 1 < length (named_loop links n)
        → get_or (named_loop links n) p 0 ≡ get_or (named_loop links n) q 0 → p ≡ q
    unfolding named_loop
    named_loop_once p q a b e =
        let xs = go_back links (drained links n).count n (first_waiting links (drained links n).count n 0) [] in
        let f : (k : ℕ) → k + 1 < length (again xs) → k < length xs = λ k l. omega (arith, again_length xs) in
        once_place xs named.distinct.once p q (f p a) (f q b) (sym (again_at xs p (f p a)) ∙ e ∙ again_at xs q (f q b))

    -- each of which waits
    pub named_loop_waits : (p : ℕ) → p < length (named_loop links n) → 0 < (drained links n).count (get_or (named_loop links n) p 0)
    unfolding named_loop
    named_loop_waits p l =
        let xs = go_back links (drained links n).count n (first_waiting links (drained links n).count n 0) [] in
        named.waits (get_or (again xs) p 0) (again_times xs named.some (get_or (again xs) p 0) (times_at (again xs) p l))

    pub named_loop_below : (p : ℕ) → p < length (named_loop links n) → get_or (named_loop links n) p 0 < n
    named_loop_below p l = waits_below (drained_kept links n range) (get_or (named_loop links n) p 0) (named_loop_waits p l)

    pub kahn_short : CloseLoop links
    kahn_short = (named_loop links n, named_loop_lem)

  -- ---- all come out exactly where no loop is closed

  pub kahn_iff : (length (kahn links n) ≡ n) ↔ (¬ (CloseLoop links))
  kahn_iff = (
    λ e. ordered_no_loop (kahn_ordered e) range,
    λ h. ⊎_elim (λ l. absurd (h (kahn_short l))) (λ l. omega (arith, kahn_le)) (lt_or_le (length (kahn links n)) n),
  )

  -- and a loop is closed exactly where some are left
  pub kahn_loop_iff : CloseLoop links ↔ (length (kahn links n) < n)
  kahn_loop_iff = (
    λ h. ⊎_elim (λ l. l) (λ l. absurd (kahn_iff.0 (omega (arith, kahn_le)) h)) (lt_or_le (length (kahn links n)) n),
    kahn_short,
  )
