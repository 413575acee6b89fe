-- `calendar::Exceptions::first_between` meets its contract: std's search parts the records that are before day `d` from the others.
use Rattle.std.proofs.Common.{rules, of_calls, arith, ap, ◌∙◌, ⊎_elim, ◌≡◌, ℕ, [], ◌+◌, ◌-◌, ◌≤◌, ◌<◌, ltb, length, get_or, take, drop, ltb-true, ltb-false}
use Rattle.std.proofs.lemmas.Bool.{cases_lt}
use Rattle.std.proofs.lemmas.List.{get_or-drop, get_or-take}
use Rattle.std.proofs.lemmas.List.Edits.{length-between}
use Rattle.std.proofs.lemmas.List.Sorted.{IsPartitionedBy-ltb, IsNonDecreasingBy-from_default, IsPartitionPoint-from_clause}
use Rattle.calendar.specs.Records.{exception_day}
use Rattle.calendar.specs.Exceptions.{day_in}
use Rattle.calendar.proofs.exceptions.Exceptions.first_between.Goals as goal

pub returns : goal.returns
returns c =
    let a = c.args in
    let e = a.self.now in
    let es = c.entries-entries.result.now in
    let xs = take (a.high - a.low) (drop a.low es) in
    let size : length xs ≡ a.high - a.low = length-between es a.low a.high (omega (arith, c.entries-entries.ensures.0)) in
    let is : (i : ℕ) → i < a.high - a.low → exception_day (get_or xs i []) 0 0 ≡ day_in e (a.low + i) =
    λ i l. ap (λ y. exception_day y 0 0) (get_or-take (a.high - a.low) (drop a.low es) i [] l ∙ get_or-drop a.low es i []) ∙ c.entries-entries.ensures.1 (a.low + i) (omega arith) in
    let parted = IsPartitionPoint-from_clause (λ y. ltb (exception_day y 0 0) a.d) xs c.partition_point.result c.partition_point.ensures.partitioned
    (IsPartitionedBy-ltb (λ y. exception_day y 0 0) xs a.d
    (IsNonDecreasingBy-from_default (λ y. exception_day y 0 0) xs []
    (λ i j l m. omega (arith, is i (omega (arith, size)), is j (omega (arith, size)), e.listed.1 (a.low + i) (a.low + j) (omega arith) (omega (arith, size))))))
    (λ x r f k. search (rules, of_calls)) in
    record {
      within = omega (arith, size, c.partition_point.ensures.bound);
      below = λ j l.
          ⊎_elim (λ m. c.requires.2 j m)
          (λ m.
          let n : a.low + (j - a.low) ≡ j = omega arith in
          let t = ltb-true _ _ (parted.0 (j - a.low) [] (omega (arith, size, c.partition_point.ensures.bound)) (omega arith)) in
          let v : day_in e (a.low + (j - a.low)) < a.d = omega (arith, t, is (j - a.low) (omega (arith, size, c.partition_point.ensures.bound))) in
          rw n at v) (cases_lt j a.low);
      above = λ j l m.
          ⊎_elim
          (λ k.
          let n : a.low + (j - a.low) ≡ j = omega arith in
          let t = ltb-false _ _ (parted.1 (j - a.low) [] (omega arith) (omega (arith, size))) in
          let v : a.d ≤ day_in e (a.low + (j - a.low)) = omega (arith, t, is (j - a.low) (omega arith)) in
          rw n at v) (λ k. c.requires.3 j k m) (cases_lt j a.high);
    }
