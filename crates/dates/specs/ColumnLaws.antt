-- Columns of the memory: what is read, and what a put, a filled field and a frame make of them.
use Rattle.std.specs.Prelude.{◌≡◌, refl, Bool, true, false, ◌≢◌, ℕ, ◌+◌, ◌≤◌, ◌<◌, eqb, ltb, pos}
use Rattle.std.proofs.Common.{sym, ap, ◌∙◌, ⊎_elim, arith, eq-eqb, ne_eqb, lt-ltb, le-ltb}
use Rattle.number.specs.Order.{eq_or_ne, lt_or_le}
use Rattle.number.specs.Bit.{bit}
use Rattle.number.specs.BitLaws.{mark_flag}
use Rattle.worktime.specs.Reads.{on_true, on_false}
use Rattle.memory.specs.State.{State, put_act, fill_act}
use Rattle.memory.specs.StateLaws.{act_same, act_row, fill_act_lem}
use Rattle.passes.specs.Dates.{put}
use Rattle.dates.specs.Columns.{column, flags}

module _ {A : Type 0} (f : ℕ → A) (i : ℕ) (v : A) where
  pub put_here : put f i v i ≡ v
  put_here = on_true (eqb i i) v (f i) (eq-eqb i i refl)

  pub put_else : (j : ℕ) → j ≢ i → put f i v j ≡ f j
  put_else j h = on_false (eqb j i) v (f j) (ne_eqb j i h)

  -- a function that has v at i and else what f has is `put f i v`
  pub put_is : (g : ℕ → A) → g i ≡ v → ((j : ℕ) → j ≢ i → g j ≡ f j) → g ≡ put f i v
  put_is g h k = λ z j. at j z
    where
      at : (j : ℕ) → g j ≡ put f i v j
      at j = ⊎_elim (λ (e : j ≡ i). rw e (h ∙ sym put_here)) (λ (n : j ≢ i). k j n ∙ sym (put_else j n)) (eq_or_ne j i)

above : (n j : ℕ) → n ≤ j → j ≢ n → n + 1 ≤ j
above n j l h = omega (arith, h)

module _ (n : ℕ) (other : ℕ → ℕ) (f : ℕ) where
  pub column_at : (S : State) (i : ℕ) → i < n → column n other S f i ≡ S.act f i
  column_at S i l = on_true (ltb i n) (S.act f i) (other i) (lt-ltb i n l)

  pub column_past : (S : State) (i : ℕ) → n ≤ i → column n other S f i ≡ other i
  column_past S i l = on_false (ltb i n) (S.act f i) (other i) (le-ltb i n l)

  -- two states with the same field have the same column
  pub column_same : (S T : State) → T.act f ≡ S.act f → column n other T f ≡ column n other S f
  column_same S T e = λ z i. elim (ltb i n) [ true ↦ e z i | false ↦ other i ]

  pub column_put : (S : State) (i v : ℕ) → i < n → column n other (put_act S f i v) f ≡ put (column n other S f) i v
  column_put S i v l =
      put_is (column n other S f) i v (column n other (put_act S f i v) f)
      (column_at (put_act S f i v) i l ∙ act_same S f i (pos v))
      (λ j h. ap (λ (x : ℕ). elim (ltb j n) [ true ↦ x | false ↦ other j ]) (act_row S f i (pos v) f j h))

  -- one row more
  pub column_more : (S : State) (v : ℕ) → column (n + 1) other (put_act S f n v) f ≡ put (column n other S f) n v
  column_more S v =
      put_is (column n other S f) n v (column (n + 1) other (put_act S f n v) f)
      (column_at' (put_act S f n v) n (omega arith) ∙ act_same S f n (pos v))
      (λ j h.
      ⊎_elim (λ (l : j < n). column_at' (put_act S f n v) j (omega arith) ∙ act_row S f n (pos v) f j h ∙ sym (column_at S j l))
      (λ (l : n ≤ j). column_past' (put_act S f n v) j (above n j l h) ∙ sym (column_past S j l)) (lt_or_le j n))
    where
      column_at' : (T : State) (i : ℕ) → i < n + 1 → column (n + 1) other T f i ≡ T.act f i
      column_at' T i l = on_true (ltb i (n + 1)) (T.act f i) (other i) (lt-ltb i (n + 1) l)

      column_past' : (T : State) (i : ℕ) → n + 1 ≤ i → column (n + 1) other T f i ≡ other i
      column_past' T i l = on_false (ltb i (n + 1)) (T.act f i) (other i) (le-ltb i (n + 1) l)

-- a field filled with v, and v past it
pub column_fill : (n : ℕ) (S : State) (f v : ℕ) → column n (λ i. v) (fill_act S f n v) f ≡ (λ (i : ℕ). v)
column_fill n S f v = λ z i. at i z
  where
    at : (i : ℕ) → column n (λ i. v) (fill_act S f n v) f i ≡ v
    at i =
        ⊎_elim (λ (l : i < n). column_at n (λ i. v) f (fill_act S f n v) i l ∙ fill_act_lem S f v n i l)
        (λ (l : n ≤ i). column_past n (λ i. v) f (fill_act S f n v) i l) (lt_or_le i n)

-- no row: all is `other`
pub column_none : (other : ℕ → ℕ) (S : State) (f : ℕ) → column 0 other S f ≡ other
column_none other S f = λ z i. column_past 0 other f S i (omega arith) z

module _ (n : ℕ) (other : ℕ → Bool) (f : ℕ) where
  pub flags_at : (S : State) (i : ℕ) → i < n → flags n other S f i ≡ ltb 0 (S.act f i)
  flags_at S i l = on_true (ltb i n) (ltb 0 (S.act f i)) (other i) (lt-ltb i n l)

  pub flags_past : (S : State) (i : ℕ) → n ≤ i → flags n other S f i ≡ other i
  flags_past S i l = on_false (ltb i n) (ltb 0 (S.act f i)) (other i) (le-ltb i n l)

  pub flags_same : (S T : State) → T.act f ≡ S.act f → flags n other T f ≡ flags n other S f
  flags_same S T e = λ z i. elim (ltb i n) [ true ↦ ltb 0 (e z i) | false ↦ other i ]

  pub flags_put : (S : State) (i : ℕ) (b : Bool) → i < n → flags n other (put_act S f i (bit b)) f ≡ put (flags n other S f) i b
  flags_put S i b l =
      put_is (flags n other S f) i b (flags n other (put_act S f i (bit b)) f)
      (flags_at (put_act S f i (bit b)) i l ∙ mark_flag b (act_same S f i (pos (bit b))))
      (λ j h. ap (λ (x : ℕ). elim (ltb j n) [ true ↦ ltb 0 x | false ↦ other j ]) (act_row S f i (pos (bit b)) f j h))

  pub flags_more : (S : State) (b : Bool) → flags (n + 1) other (put_act S f n (bit b)) f ≡ put (flags n other S f) n b
  flags_more S b =
      put_is (flags n other S f) n b (flags (n + 1) other (put_act S f n (bit b)) f)
      (flags_at' (put_act S f n (bit b)) n (omega arith) ∙ mark_flag b (act_same S f n (pos (bit b))))
      (λ j h.
      ⊎_elim
      (λ (l : j < n). flags_at' (put_act S f n (bit b)) j (omega arith) ∙ ap (ltb 0) (act_row S f n (pos (bit b)) f j h) ∙ sym (flags_at S j l))
      (λ (l : n ≤ j). flags_past' (put_act S f n (bit b)) j (above n j l h) ∙ sym (flags_past S j l)) (lt_or_le j n))
    where
      flags_at' : (T : State) (i : ℕ) → i < n + 1 → flags (n + 1) other T f i ≡ ltb 0 (T.act f i)
      flags_at' T i l = on_true (ltb i (n + 1)) (ltb 0 (T.act f i)) (other i) (lt-ltb i (n + 1) l)

      flags_past' : (T : State) (i : ℕ) → n + 1 ≤ i → flags (n + 1) other T f i ≡ other i
      flags_past' T i l = on_false (ltb i (n + 1)) (ltb 0 (T.act f i)) (other i) (le-ltb i (n + 1) l)
