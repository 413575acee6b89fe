-- A walk stands at the beginning of a day, and goes on from one E record to the next: forward and back.
use Rattle.std.specs.Prelude.{◌≡◌, refl, List, ℕ, ◌+◌, ◌-◌, ◌*◌, ◌≤◌, ◌<◌}
use Rattle.std.proofs.Common.{sym, ap, ◌∙◌, ⊎_elim, arith}
use Rattle.number.specs.Order.{lt_or_le, zero_or_pos}
use Rattle.calendar.specs.declared.Period.{Period}
use Rattle.calendar.specs.Records.{exception_day, exception_period, Valid, FirstFrom}
use Rattle.worktime.specs.Worked.{count}
use Rattle.clock.specs.On.{worked_on}
use Rattle.clock.specs.Regular.{Sums, regular}
use Rattle.clock.specs.RegularLaws.{between_regular, regular_step, count_regular, none_between, next_own_is, after_own_is}
use Rattle.clock.specs.Stands.{record_work, record_count, Ahead, Behind, RecordMinute}
use Rattle.clock.specs.RecordLaws.{count_further, count_first, count_last, record_selected}

module _ {week : List (List Period)} {s : List ℕ} {at n : ℕ} (valid : Valid week s at n) where
  -- x minutes into E record j
  pub record_minute : (j x : ℕ) → j < n → 0 < x → x ≤ record_work s at j → RecordMinute week s at n j x (exception_day s at j * 1440 + (exception_period s at j).from + x)
  record_minute j x l p q =
      let e : exception_day s at j * 1440 + (exception_period s at j).from + x ≡ exception_day s at j * 1440 + ((exception_period s at j).from + x) = omega arith in
      let r = record_selected valid j l x p q in
      rw e
      (record {
        low = omega (arith, r.low);
        high = omega (arith, r.high);
        closes = r.closes;
        opens = r.opens;
        full = omega (arith, r.full);
        less = omega (arith, r.less);
      })

  -- record j is the first from day d on, where d lies between the days of the record before it and of its own
  first_at : (d j : ℕ) → j ≤ n → (0 < j → exception_day s at (j - 1) < d) → (j < n → d ≤ exception_day s at j) → FirstFrom s at n d j
  first_at d j l a b = record {
    within = l;
    below = λ i k. omega (arith, a (omega arith), valid.sorted i (j - 1) (omega arith) (omega arith));
    above = λ i k m. omega (arith, b (omega arith), valid.sorted j i k m);
  }

  module _ {ss : List ℕ} (sums : Sums week ss) where
    regular_up : (d : ℕ) → regular ss d ≤ regular ss (d + 1)
    regular_up d = omega (arith, regular_step sums d)

    -- the days from d up to e, before which the same E records stand
    between : {d e j : ℕ} → FirstFrom s at n d j → FirstFrom s at n e j → d ≤ e
        → (count (worked_on week s at n) (d * 1440) + regular ss e ≡ count (worked_on week s at n) (e * 1440) + regular ss d) × (regular ss d ≤ regular ss e)
    between {d} {e} from to l = (
      count_regular sums valid d (e - d) e (omega arith) (λ x a b. none_between from to x a b),
      omega (arith, between_regular ss d e sums.rising l),
    )

    -- at the beginning of day d, whose first E record or the first after it is record j
    pub ahead_day : {d j : ℕ} → FirstFrom s at n d j → Ahead week s at n ss j (count (worked_on week s at n) (d * 1440)) (regular ss d)
    ahead_day {d} {j} first =
        let to : (x : ℕ) → d ≤ x → (j < n → x ≤ exception_day s at j) → FirstFrom s at n x j = next_own_is s at n d j valid.sorted first in
        record {
          next = d;
          is = refl;
          within = first.within;
          days = λ x l k. omega (arith, between first (to x l k) l);
          none = λ x l k. none_between first (to (x + 1) (omega arith) (λ m. omega (arith, k m))) x l (omega arith);
          record_next = λ l.
              let m : d ≤ exception_day s at j = first.above j (omega arith) l in
              omega (arith, between first (to (exception_day s at j) m (λ _. omega arith)) m, count_first week s at n j (λ i k. omega (arith, first.below i k)));
        }

    pub behind_day : {d j : ℕ} → FirstFrom s at n d j → Behind week s at n ss j (count (worked_on week s at n) (d * 1440)) (regular ss d)
    behind_day {d} {j} first =
        let from : (x : ℕ) → x ≤ d → (0 < j → exception_day s at (j - 1) < x) → FirstFrom s at n x j = after_own_is s at n d j valid.sorted first in
        record {
          next = d;
          is = refl;
          within = first.within;
          days = λ x l k. omega (arith, between (from x l k) first l);
          none = λ x l k. none_between (from x (omega arith) k) first x (omega arith) l;
          record_last = λ l.
              let m : exception_day s at (j - 1) < d = first.below (j - 1) (omega arith) in
              let b = between (from (exception_day s at (j - 1) + 1) (omega arith) (λ _. omega arith)) first (omega arith) in
              omega (arith, b, count_last valid (j - 1) (omega (arith, first.within)) (λ i a b. omega (arith, m, first.above i (omega arith) b)));
        }

    -- after E record j, and before it
    pub ahead_record : (j : ℕ) → j < n → Ahead week s at n ss (j + 1) (record_count week s at n j + record_work s at j) (regular ss (exception_day s at j + 1))
    ahead_record j l =
        ⊎_elim (λ k. ⊎_elim (λ m. last (λ _. m)) (λ m. further k (omega (arith, m, valid.sorted j (j + 1) (omega arith) k))) (lt_or_le (exception_day s at j) (exception_day s at (j + 1))))
        (λ k. last (λ m. absurd (omega arith))) (lt_or_le (j + 1) n)
      where
        last : (j + 1 < n → exception_day s at j < exception_day s at (j + 1)) → Ahead week s at n ss (j + 1) (record_count week s at n j + record_work s at j) (regular ss (exception_day s at j + 1))
        last f =
            let e : exception_day s at (j + 1 - 1) ≡ exception_day s at j = ap (exception_day s at) (omega arith) in
            let first : FirstFrom s at n (exception_day s at j + 1) (j + 1) = first_at (exception_day s at j + 1) (j + 1) (omega arith) (λ _. omega (arith, e)) (λ k. omega (arith, f k)) in
            rw (count_last valid j l (λ i a b. omega (arith, first.above i (omega arith) b))) at (ahead_day first)

        further : j + 1 < n → exception_day s at j ≡ exception_day s at (j + 1) → Ahead week s at n ss (j + 1) (record_count week s at n j + record_work s at j) (regular ss (exception_day s at j + 1))
        further k is = record {
          next = exception_day s at j + 1;
          is = refl;
          within = omega arith;
          days = λ x a b. absurd (omega (arith, b k));
          none = λ x a b. absurd (omega (arith, b k));
          record_next = λ _. omega (arith, count_further week s at n j (j + 1) refl is, ap (regular ss) is, regular_up (exception_day s at j));
        }

    pub behind_record : (j : ℕ) → j < n → Behind week s at n ss j (record_count week s at n j) (regular ss (exception_day s at j))
    behind_record j l =
        ⊎_elim (λ k. first (λ m. absurd (omega arith)))
        (λ k. ⊎_elim (λ m. first (λ _. m)) (λ m. further k (omega (arith, m, valid.sorted (j - 1) j (omega arith) l))) (lt_or_le (exception_day s at (j - 1)) (exception_day s at j))) (zero_or_pos j)
      where
        first : (0 < j → exception_day s at (j - 1) < exception_day s at j) → Behind week s at n ss j (record_count week s at n j) (regular ss (exception_day s at j))
        first f =
            let own : FirstFrom s at n (exception_day s at j) j = first_at (exception_day s at j) j (omega arith) f (λ _. omega arith) in
            rw (sym (count_first week s at n j own.below)) at (behind_day own)

        further : 0 < j → exception_day s at (j - 1) ≡ exception_day s at j → Behind week s at n ss j (record_count week s at n j) (regular ss (exception_day s at j))
        further k is = record {
          next = exception_day s at j;
          is = refl;
          within = omega arith;
          days = λ x a b. absurd (omega (arith, b k));
          none = λ x a b. absurd (omega (arith, b k));
          record_last = λ _. omega (arith, count_further week s at n (j - 1) j (omega arith) is, ap (regular ss) is, regular_up (exception_day s at (j - 1)));
        }

-- E record j - 1 is passed, with the days after it
pub behind_step : {week : List (List Period)} {s : List ℕ} {at n : ℕ} → Valid week s at n → {ss : List ℕ} → Sums week ss
    → (j c passed over x w gap o : ℕ) → 0 < j → passed ≤ c → Behind week s at n ss j (c - passed) over
    → x ≡ exception_day s at (j - 1) → w ≡ record_work s at (j - 1) → gap ≡ over - regular ss (x + 1) → o ≡ regular ss x
    → (passed + gap + w ≤ c) × Behind week s at n ss (j - 1) (c - (passed + gap + w)) o
behind_step {week} {s} {at} {n} valid {ss} sums j c passed over x w gap o p l b ex ew eg eo =
    let r = b.record_last p in
    let e : regular ss (x + 1) ≡ regular ss (exception_day s at (j - 1) + 1) = ap (λ z. regular ss (z + 1)) ex in
    let f : record_count week s at n (j - 1) ≡ c - (passed + gap + w) = omega (arith, r, e, ew, eg) in
    let g : regular ss (exception_day s at (j - 1)) ≡ o = sym (eo ∙ ap (regular ss) ex) in
    (omega (arith, r, e, ew, eg), rw (f, g) at (behind_record valid sums (j - 1) (omega (arith, b.within))))
