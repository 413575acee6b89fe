-- The columns and what follows them cleared one after the other: the state is as it was but for what does not stand.
use Rattle.std.specs.Prelude.{◌≡◌, refl, Bool, true, false, List, ℕ, ◌+◌, ◌*◌, ◌≤◌, ◌<◌, ltb, ℤ, pos, length}
use Rattle.std.proofs.Common.{sym, ◌∙◌, inl, inr, ⊎_elim, arith, le-leb}
use Rattle.std.proofs.Math.Path.{ap}
use Rattle.std.proofs.Math.Bool.{cond}
use Rattle.std.proofs.lemmas.Bool.{lt-leb}
use Rattle.std.proofs.Math.ListN.{get_or-eq_default}
use Rattle.number.specs.Order.{lt_or_le}
use Rattle.number.specs.Zed.{up}
use Rattle.cells.specs.Cell.{cell_z}
use Rattle.memory.specs.State.{Room, place, table, state_of}
use Rattle.memory.specs.Columns.{place_from, place_to}
use Rattle.memory.specs.StateLaws.{table_at, table_past, table_wide}
use Rattle.rest.specs.Stands.{act_stands, link_stands, of_activity, of_link, Cleared, ColumnsCleared, rest_cleared}

-- ---- choices
cond_both : {A : Type 0} (b : Bool) (x : A) → cond b x x ≡ x
cond_both true x = refl
cond_both false x = refl

up_cond : (b : Bool) (z : ℤ) → up (cond b z (pos 0)) ≡ cond b (up z) 0
up_cond true z = refl
up_cond false z = refl

-- ---- a table of which each cell is kept or 0
module _ (base size n : ℕ) (xs ws : List ℤ) (kept : ℕ → ℕ → ℤ → ℤ) (none : (f i : ℕ) → kept f i (pos 0) ≡ pos 0)
    (cells : (f i : ℕ) → f < size → i < n → cell_z ws (base + place n f i) ≡ kept f i (cell_z xs (base + place n f i))) where
  table_kept : (f i : ℕ) → table base size n ws f i ≡ kept f i (table base size n xs f i)
  table_kept f i =
      ⊎_elim (λ (p : f < size).
      ⊎_elim (λ (q : i < n). table_at base size n ws f i p q ∙ cells f i p q ∙ ap (kept f i) (sym (table_at base size n xs f i p q)))
      (λ (q : n ≤ i). nothing (table_past base size n ws f i q) (table_past base size n xs f i q)) (lt_or_le i n))
      (λ (p : size ≤ f). nothing (table_wide base size n ws f i p) (table_wide base size n xs f i p)) (lt_or_le f size)
    where
      nothing : {y z : ℤ} → y ≡ pos 0 → z ≡ pos 0 → y ≡ kept f i z
      nothing d e = d ∙ sym (ap (kept f i) e ∙ none f i)

-- ---- a list has no cell past its end
cell_past : (xs : List ℤ) (j : ℕ) → length xs ≤ j → cell_z xs j ≡ pos 0
unfolding cell_z
cell_past xs j h = get_or-eq_default xs (pos 0) h

module _ (a l t : ℕ) {xs ys zs ws : List ℤ} (room : Room a l xs) (C : ColumnsCleared 0 a of_activity 0 64 xs ys)
    (D : ColumnsCleared (64 * a) l (of_link t) 0 7 ys zs) (E : Cleared (64 * a + 7 * l) (length xs) zs ws) where
  pub rest_size : length ws ≡ length xs
  rest_size = E.size ∙ D.size ∙ C.size

  pub rest_after : (j : ℕ) → 64 * a + 16 * l ≤ j → cell_z ws j ≡ pos 0
  rest_after j h = ⊎_elim (λ (s : j < length xs). E.inside j (omega arith) s) (λ (s : length xs ≤ j). cell_past ws j (omega (arith, rest_size))) (lt_or_le j (length xs))

  act_cell : (f i : ℕ) → f < 64 → i < a → cell_z ws (0 + place a f i) ≡ cond (act_stands f) (cell_z xs (0 + place a f i)) (pos 0)
  act_cell f i p q =
      let e = place_to a 64 f i (inr (omega arith)) p q in
      E.below (0 + place a f i) (omega arith) ∙ D.below (0 + place a f i) (omega arith) ∙ C.inside f i (omega arith) p q

  link_cell : (f k : ℕ) → f < 16 → k < l → cell_z ws (64 * a + place l f k) ≡ cond (link_stands f) (cond (ltb k t) (cell_z xs (64 * a + place l f k)) (pos 0)) (pos 0)
  link_cell f k p q =
      ⊎_elim (λ (s : f < 7).
      let e = place_to l 7 f k (inl (omega arith)) s q in
      E.below j (omega arith) ∙ D.inside f k (omega arith) s q ∙ ap (λ (z : ℤ). cond (ltb k t) z (pos 0)) (C.above j (omega arith))
      ∙ sym (ap (λ (b : Bool). cond b (cond (ltb k t) (cell_z xs j) (pos 0)) (pos 0)) (le-leb f 6 (omega arith))))
      (λ (s : 6 < f).
      let e = place_from l 7 f k (inl (omega arith)) s in
      let d = place_to l 16 f k (inl (omega arith)) p q in
      E.inside j (omega arith) (omega arith) ∙ sym (ap (λ (b : Bool). cond b (cond (ltb k t) (cell_z xs j) (pos 0)) (pos 0)) (lt-leb f 6 s))) (lt_or_le f 7)
    where
      j : ℕ
      j = 64 * a + place l f k

  act_is : (f i : ℕ) → (state_of a l ws).act_z f i ≡ cond (act_stands f) ((state_of a l xs).act_z f i) (pos 0)
  unfolding state_of
  act_is = table_kept 0 64 a xs ws (λ f i z. cond (act_stands f) z (pos 0)) (λ f i. cond_both (act_stands f) (pos 0)) act_cell

  link_is : (f k : ℕ) → (state_of a l ws).link_z f k ≡ cond (link_stands f) (cond (ltb k t) ((state_of a l xs).link_z f k) (pos 0)) (pos 0)
  unfolding state_of
  link_is =
      table_kept (64 * a) 16 l xs ws (λ f k z. cond (link_stands f) (cond (ltb k t) z (pos 0)) (pos 0))
      (λ f k. ap (λ (z : ℤ). cond (link_stands f) z (pos 0)) (cond_both (ltb k t) (pos 0)) ∙ cond_both (link_stands f) (pos 0)) link_cell

  pub rest_is : state_of a l ws ≡ rest_cleared t (state_of a l xs)
  unfolding state_of
  rest_is = λ z. record {
    act = λ f i. (ap up (act_is f i) ∙ up_cond (act_stands f) ((state_of a l xs).act_z f i)) z;
    link = λ f k. (ap up (link_is f k) ∙ up_cond (link_stands f) _ ∙ ap (λ (n : ℕ). cond (link_stands f) n 0) (up_cond (ltb k t) ((state_of a l xs).link_z f k))) z;
    act_z = λ f i. act_is f i z;
    link_z = λ f k. link_is f k z;
  }
