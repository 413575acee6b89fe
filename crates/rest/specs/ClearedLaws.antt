-- How memory is cleared: a stretch by a fill, columns one after another, and the columns of each table.
use Rattle.std.specs.Prelude.{◌≡◌, Bool, true, false, cond, ◌≢◌, ◌⊎◌, ℤ, pos, length}
use Rattle.std.proofs.Math.Path.{refl, ap}
use Rattle.std.proofs.Common.{sym, ◌∙◌, inl, inr, mul-le-mul_right, arith, ne_eqb, lt-ltb, le-ltb}
use Rattle.std.proofs.Math.Logic.{⊎_elim}
use mathlib.Core.List.{List}
use Prim.Native.Nat.{ℕ, zero, suc, ◌+◌, ◌*◌, ◌-◌, ◌≤◌, ◌<◌}
use Rattle.number.specs.Order.{eq_or_ne, lt_or_le}
use Rattle.cells.specs.Cell.{cell_z, filled}
use Rattle.cells.specs.CellLaws.{store_pos, length_filled, cell_z_same, cell_z_other}
use Rattle.memory.specs.State.{place}
use Rattle.memory.specs.Columns.{column_ends, place_before, place_from, place_to}
use Rattle.rest.specs.Stands.{act_stands, of_activity, of_link, Cleared, ColumnsCleared}

-- ---- a fill
module _ (xs : List ℤ) (base : ℕ) where
  filled_in : (n j : ℕ) → base + n ≤ length xs → base ≤ j → j < base + n → cell_z (filled xs base 0 n) j ≡ pos 0
  unfolding filled
  filled_in zero j b h k = absurd (omega arith)
  filled_in (suc n) j b h k =
      ap (λ (ys : List ℤ). cell_z ys j) (store_pos (filled xs base 0 n) (base + n) 0)
      ∙ ⊎_elim (λ e. rw e (cell_z_same (filled xs base 0 n) (base + n) (pos 0) (omega (arith, length_filled xs base 0 n))))
      (λ ne. cell_z_other (filled xs base 0 n) (base + n) j (pos 0) ne ∙ filled_in n j (omega arith) h (omega arith)) (eq_or_ne j (base + n))

  filled_out : (n j : ℕ) → (base ≤ j → j < base + n → ⊥) → cell_z (filled xs base 0 n) j ≡ cell_z xs j
  unfolding filled
  filled_out zero j h = refl
  filled_out (suc n) j h =
      ap (λ (ys : List ℤ). cell_z ys j) (store_pos (filled xs base 0 n) (base + n) 0)
      ∙ cell_z_other (filled xs base 0 n) (base + n) j (pos 0) (λ e. h (omega arith) (omega arith))
      ∙ filled_out n j (λ p q. h p (omega arith))

  pub fill_clears : (to : ℕ) → base ≤ to → to ≤ length xs → Cleared base to xs (filled xs base 0 (to - base))
  fill_clears to h k = record {
    size = length_filled xs base 0 (to - base);
    inside = λ j p q. filled_in (to - base) j (omega arith) p (omega arith);
    below = λ j p. filled_out (to - base) j (λ q r. omega arith);
    above = λ j p. filled_out (to - base) j (λ q r. omega arith);
  }

-- the same stretch by other numbers
pub clear_at : {lo lo' hi hi' : ℕ} {xs ys : List ℤ} → lo ≡ lo' → hi ≡ hi' → Cleared lo hi xs ys → Cleared lo' hi' xs ys
clear_at e f C = rw (sym e, sym f) C

-- ---- columns
-- a field at which those that stand row by row are not parted
abbrev Whole : ℕ → Type 0
Whole f = (f ≤ 20) ⊎ (27 < f)

module _ (base n : ℕ) (standing : ℕ → ℕ → Bool) where
  -- where all cells stand nothing need be done
  pub columns_stand : (lo hi : ℕ) (xs : List ℤ) → ((f i : ℕ) → lo ≤ f → f < hi → standing f i ≡ true) → ColumnsCleared base n standing lo hi xs xs
  columns_stand lo hi xs h = record {
    size = refl;
    inside = λ f i p q r. sym (ap (λ (b : Bool). cond b (cell_z xs (base + place n f i)) (pos 0)) (h f i p q));
    below = λ j p. refl;
    above = λ j p. refl;
  }

  -- where none stands all are cleared
  pub columns_clear : {lo hi : ℕ} {xs ys : List ℤ} → Whole lo → Whole hi → ((f i : ℕ) → lo ≤ f → f < hi → standing f i ≡ false)
      → Cleared (base + lo * n) (base + hi * n) xs ys → ColumnsCleared base n standing lo hi xs ys
  columns_clear {lo} {hi} {xs} {ys} u v h C = record {
    size = C.size;
    inside = λ f i p q r.
        C.inside (base + place n f i) (omega (arith, place_from n lo f i u p)) (omega (arith, place_to n hi f i v q r))
        ∙ sym (ap (λ (b : Bool). cond b (cell_z xs (base + place n f i)) (pos 0)) (h f i p q));
    below = C.below;
    above = C.above;
  }

  pub columns_then : {lo mid hi : ℕ} {xs ys zs : List ℤ} → Whole mid → lo ≤ mid → mid ≤ hi → ColumnsCleared base n standing lo mid xs ys → ColumnsCleared base n standing mid hi ys zs
      → ColumnsCleared base n standing lo hi xs zs
  columns_then {lo} {mid} {hi} {xs} {ys} {zs} u h k C D = record {
    size = D.size ∙ C.size;
    inside = λ f i p q r.
        ⊎_elim (λ (s : f < mid). D.below (base + place n f i) (omega (arith, place_to n mid f i u s r)) ∙ C.inside f i p s r)
        (λ (s : mid ≤ f).
        D.inside f i s q r ∙ ap (λ (z : ℤ). cond (standing f i) z (pos 0)) (C.above (base + place n f i) (omega (arith, place_from n mid f i u s)))) (lt_or_le f mid);
    below = λ j p. D.below j (omega (arith, mul-le-mul_right n h)) ∙ C.below j p;
    above = λ j p. D.above j p ∙ C.above j (omega (arith, mul-le-mul_right n k));
  }

-- ---- the fields
stands_some : (f : ℕ) → 2 ≤ f → f < 6 → act_stands f ≡ true
stands_some f h k =
    ⊎_elim (λ (e : f ≡ 2). rw e)
    (λ (a : f ≢ 2).
    ⊎_elim (λ (e : f ≡ 3). rw e)
    (λ (b : f ≢ 3).
    ⊎_elim (λ (e : f ≡ 4). rw e) (λ (c : f ≢ 4). let e : f ≡ 5 = omega arith in rw e) (eq_or_ne f 4)) (eq_or_ne f 3)) (eq_or_ne f 2)

stands_not : (f : ℕ) → (2 ≤ f → f < 8 → ⊥) → act_stands f ≡ false
stands_not f h =
    let ne : (g : ℕ) → 2 ≤ g → g < 8 → f ≢ g = λ g a b e. h (omega arith) (omega arith) in
    simp (ne_eqb f 2 (ne 2 (omega arith) (omega arith)), ne_eqb f 3 (ne 3 (omega arith) (omega arith)), ne_eqb f 4 (ne 4 (omega arith) (omega arith)), ne_eqb f 5 (ne 5 (omega arith) (omega arith)), ne_eqb f 7 (ne 7 (omega arith) (omega arith)))

-- ---- the columns of activities: parent to first_out and order_at stand
module _ (a : ℕ) {xs ys zs ws : List ℤ} where
  pub activities_cleared : Cleared 0 (2 * a) xs ys → Cleared (6 * a) (7 * a) ys zs → Cleared (8 * a) (64 * a) zs ws → ColumnsCleared 0 a of_activity 0 64 xs ws
  activities_cleared C D E =
      let S : (ℕ → ℕ → Bool) = of_activity in
      columns_then 0 a S (inl (omega arith)) (omega arith) (omega arith)
      (columns_then 0 a S (inl (omega arith)) (omega arith) (omega arith)
      (columns_then 0 a S (inl (omega arith)) (omega arith) (omega arith)
      (columns_then 0 a S (inl (omega arith)) (omega arith) (omega arith)
      (columns_clear 0 a S (inl (omega arith)) (inl (omega arith)) (λ f i p q. stands_not f (λ u v. omega arith)) (clear_at {lo' = 0 + 0 * a} {hi' = 0 + 2 * a} (omega arith) (omega arith) C))
      (columns_stand 0 a S 2 6 ys (λ f i p q. stands_some f p q)))
      (columns_clear 0 a S (inl (omega arith)) (inl (omega arith)) (λ f i p q. let e : f ≡ 6 = omega arith in rw e) (clear_at {lo' = 0 + 6 * a} {hi' = 0 + 7 * a} (omega arith) (omega arith) D)))
      (columns_stand 0 a S 7 8 zs (λ f i p q. let e : f ≡ 7 = omega arith in rw e)))
      (columns_clear 0 a S (inl (omega arith)) (inr (omega arith)) (λ f i p q. stands_not f (λ u v. omega arith)) (clear_at {lo' = 0 + 8 * a} {hi' = 0 + 64 * a} (omega arith) (omega arith) E))

-- ---- a column of links: the first t rows stand
pub column_cleared : (base n t f : ℕ) {xs ys : List ℤ} → f < 20 → Cleared (base + f * n + t) (base + f * n + n) xs ys → ColumnsCleared base n (of_link t) f (f + 1) xs ys
column_cleared base n t f {xs} {ys} l C = record {
  size = C.size;
  inside = λ g k p q r.
      let e : g ≡ f = omega arith in
      let w : base + place n f k ≡ base + f * n + k = omega (arith, place_before n f k l) in
      rw (e, w)
      (⊎_elim (λ (s : k < t). C.below (base + f * n + k) (omega arith) ∙ sym (ap (λ (b : Bool). cond b (cell_z xs (base + f * n + k)) (pos 0)) (lt-ltb k t s)))
      (λ (s : t ≤ k). C.inside (base + f * n + k) (omega arith) (omega arith) ∙ sym (ap (λ (b : Bool). cond b (cell_z xs (base + f * n + k)) (pos 0)) (le-ltb k t s)))
      (lt_or_le k t));
  below = λ j p. C.below j (omega arith);
  above = λ j p. C.above j (omega (arith, column_ends n {f = f} {g = f + 1} (omega arith)));
}
