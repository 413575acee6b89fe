-- The way back over an array of what was passed and an array of marks: it stops within n steps, and holds the loop that is named from its end.
use Rattle.std.specs.Prelude.{◌≡◌, ◌≢◌, List, [], ◌∷◌, ℕ, zero, suc, ◌+◌, ◌-◌, ◌≤◌, ◌<◌, length, get_or}
use Rattle.std.proofs.Common.{sym, ap, ap₂, ◌∙◌, ⊎_elim, arith}
use Rattle.number.specs.Order.{eq_or_ne}
use Rattle.network.specs.Links.{Link}
use Rattle.network.specs.Kahn.{put, waiting_before, up_to, go_back}
use Rattle.network.specs.Times.{same_eq, same_ne, times, times_nil, times_cons, Distinct, distinct_nil, distinct_cons, distinct_le}
use Rattle.network.proofs.Meeting.{put_same, put_other}
use Rattle.network.specs.Array.{out_of}
use Rattle.network.specs.ArrayLaws.{out_of_nil, out_of_suc, out_of_times, length_out_of, out_of_push}
use Rattle.network.proofs.BackSteps.{go_back_again, go_back_on, up_to_length, up_to_at}

-- two places of distinct numbers hold different ones
out_of_apart : (path : ℕ → ℕ) (m : ℕ) → ((j : ℕ) → times j (out_of path m) ≤ 1) → (p q : ℕ) → p < q → q < m → path q ≢ path p
out_of_apart path zero d p q a b e = omega arith
out_of_apart path (suc m) d p q a b e =
    ⊎_elim
    (λ (r : q ≡ m).
    omega (arith, out_of_times path m p (omega arith), d (path p), ap (times (path p)) (out_of_suc path m), times_cons (path p) (path m) (out_of path m), same_eq (sym e ∙ ap path r)))
    (λ (r : q ≢ m).
    out_of_apart path m (λ j. omega (arith, d j, ap (times j) (out_of_suc path m), times_cons j (path m) (out_of path m))) p q a (omega arith) e) (eq_or_ne q m)

module _ (links : List Link) (c : ℕ → ℕ) (n start : ℕ) where
  -- m were passed, x is next; the mark of each that was passed is one more than its place
  pub record Back (path mark : ℕ → ℕ) (m x : ℕ) : Type 0 where
    pub distinct : Distinct n (out_of path m)
    pub marked : (y : ℕ) → 0 < mark y → (mark y ≤ m) × (path (mark y - 1) ≡ y)
    pub unmarked : (y : ℕ) → mark y ≡ 0 → times y (out_of path m) ≡ 0
    pub waits : 0 < c x
    pub remains : go_back links c (n - m) x (out_of path m) ≡ go_back links c n start []

  pub back_start : (path mark : ℕ → ℕ) → ((y : ℕ) → mark y ≡ 0) → 0 < c start → Back path mark 0 start
  back_start path mark z p = record {
    distinct = rw (out_of_nil path) (distinct_nil n);
    marked = λ y h. absurd (omega (arith, z y));
    unmarked = λ y h. omega (arith, ap (times y) (out_of_nil path), times_nil y);
    waits = p;
    remains = ap₂ (λ (k : ℕ) (l : List ℕ). go_back links c k start l) (omega arith) (out_of_nil path);
  }

  module _ {path mark : ℕ → ℕ} {m x : ℕ} (b : Back path mark m x) where
    pub back_le : m ≤ n
    back_le = omega (arith, distinct_le b.distinct, length_out_of path m)

    module _ (inside : (j : ℕ) → 0 < c j → j < n) (new : mark x ≡ 0) where
      grown : Distinct n (x ∷ out_of path m)
      grown = distinct_cons (inside x b.waits) (b.unmarked x new) b.distinct

      pub back_room : m < n
      back_room = omega (arith, distinct_le grown, length_out_of path m)

      -- x was not passed yet: it is, and marked
      pub back_on : (path' mark' : ℕ → ℕ) → path' m ≡ x → ((p : ℕ) → p < m → path' p ≡ path p) → ((y : ℕ) → mark' y ≡ put mark x (m + 1) y)
          → 0 < c (waiting_before links c links x) → Back path' mark' (m + 1) (waiting_before links c links x)
      back_on path' mark' at old put' p =
          let list : out_of path' (m + 1) ≡ x ∷ out_of path m = out_of_push path' path 0 m (omega arith) old ∙ ap (λ (y : ℕ). y ∷ out_of path m) at in
          let f : n - m ≡ suc (n - (m + 1)) = omega (arith, back_room) in record {
            distinct = rw list grown;
            marked = λ y h.
                ⊎_elim
                (λ (e : y ≡ x).
                let v : mark' y ≡ m + 1 = put' y ∙ ap (put mark x (m + 1)) e ∙ put_same mark x (m + 1) in
                (omega arith, ap path' (omega arith) ∙ at ∙ sym e))
                (λ (e : y ≢ x).
                let v : mark' y ≡ mark y = put' y ∙ put_other mark x (m + 1) y e in
                let r = b.marked y (omega arith) in
                (omega arith, ap (λ (k : ℕ). path' (k - 1)) v ∙ old (mark y - 1) (omega arith) ∙ r.1)) (eq_or_ne y x);
            unmarked = λ y h.
                ⊎_elim (λ (e : y ≡ x). absurd (omega (arith, put' y, ap (put mark x (m + 1)) e, put_same mark x (m + 1))))
                (λ (e : y ≢ x).
                omega (arith, ap (times y) list, times_cons y x (out_of path m), same_ne e, b.unmarked y (sym (put_other mark x (m + 1) y e) ∙ sym (put' y) ∙ h)))
                (eq_or_ne y x);
            waits = p;
            remains =
                ap (go_back links c (n - (m + 1)) (waiting_before links c links x)) list
                ∙ sym (go_back_on links c (n - (m + 1)) x (out_of path m) (b.unmarked x new)) ∙ ap (λ (k : ℕ). go_back links c k x (out_of path m)) (sym f)
                ∙ b.remains;
          }

    -- x was passed: what was passed since is the loop, from its end
    module _ (old : 0 < mark x) where
      stop : go_back links c n start [] ≡ up_to links c x (out_of path m)
      stop =
          let r = b.marked x old in
          sym b.remains
          ∙ go_back_again links c (n - m) x (out_of path m) (omega (arith, out_of_times path m (mark x - 1) (omega arith), ap (λ (y : ℕ). times y (out_of path m)) r.1))

      apart : (q : ℕ) → mark x - 1 < q → q < m → path q ≢ x
      apart q l h e = let r = b.marked x old in out_of_apart path m b.distinct.once (mark x - 1) q l h (e ∙ sym r.1)

      pub back_length : length (go_back links c n start []) ≡ m - (mark x - 1)
      back_length =
          let r = b.marked x old in ap length stop ∙ up_to_length links c path x (mark x - 1) m (omega arith) r.1 apart

      pub back_at : (k : ℕ) → k < m - (mark x - 1) → get_or (go_back links c n start []) k 0 ≡ path (m - 1 - k)
      back_at k l =
          let r = b.marked x old in
          ap (λ (xs : List ℕ). get_or xs k 0) stop ∙ up_to_at links c path x (mark x - 1) m (omega arith) r.1 apart k l
