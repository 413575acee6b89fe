-- Which fields stand for the passes, and the memory with all other cells at 0.
use Rattle.std.specs.Prelude.{◌≡◌, Bool, cond, ◌||◌, List, ℕ, ◌+◌, ◌*◌, ◌≤◌, ◌<◌, eqb, leb, ltb, ℤ, pos, length}
use Rattle.cells.specs.Cell.{cell_z}
use Rattle.memory.specs.State.{State, place}
use Rattle.memory.specs.Fields.{parent, is_summary, first_in, first_out, order_at, next_out}

-- the fields of an activity that stand
abbrev pub act_stands : ℕ → Bool
act_stands f = eqb f parent || eqb f is_summary || eqb f first_in || eqb f first_out || eqb f order_at

-- and those of a kept link: its ends, kind, lag, lag calendar and chains
abbrev pub link_stands : ℕ → Bool
link_stands f = leb f next_out

-- t links are kept
abbrev pub rest_cleared : ℕ → State → State
rest_cleared t S = record {
  act = λ f i. cond (act_stands f) (S.act f i) 0;
  link = λ f k. cond (link_stands f) (cond (ltb k t) (S.link f k) 0) 0;
  act_z = λ f i. cond (act_stands f) (S.act_z f i) (pos 0);
  link_z = λ f k. cond (link_stands f) (cond (ltb k t) (S.link_z f k) (pos 0)) (pos 0);
}

-- ---- by cells
-- from xs to ys the cells from lo up to hi are 0; all others are as they were
pub record Cleared (lo hi : ℕ) (xs ys : List ℤ) : Type 0 where
  pub size : length ys ≡ length xs
  pub inside : (j : ℕ) → lo ≤ j → j < hi → cell_z ys j ≡ pos 0
  pub below : (j : ℕ) → j < lo → cell_z ys j ≡ cell_z xs j
  pub above : (j : ℕ) → hi ≤ j → cell_z ys j ≡ cell_z xs j

-- ---- by fields of n rows, of which the first is at base: what stands of field f and row i
abbrev pub of_activity : ℕ → ℕ → Bool
of_activity f i = act_stands f

-- among the columns that have fields of kept links
abbrev pub of_link : ℕ → ℕ → ℕ → Bool
of_link t f k = ltb k t

-- the fields from lo up to hi are 0 but for what stands; all other cells are as they were
pub record ColumnsCleared (base n : ℕ) (standing : ℕ → ℕ → Bool) (lo hi : ℕ) (xs ys : List ℤ) : Type 0 where
  pub size : length ys ≡ length xs
  pub inside : (f i : ℕ) → lo ≤ f → f < hi → i < n → cell_z ys (base + place n f i) ≡ cond (standing f i) (cell_z xs (base + place n f i)) (pos 0)
  pub below : (j : ℕ) → j < base + lo * n → cell_z ys j ≡ cell_z xs j
  pub above : (j : ℕ) → base + hi * n ≤ j → cell_z ys j ≡ cell_z xs j
