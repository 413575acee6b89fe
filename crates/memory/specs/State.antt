-- The lent memory as a state of two tables, functions of the field and the row: activities have 64 fields and links 16.
use Rattle.std.specs.Prelude.{cond, ◌&&◌, List, ℕ, ◌+◌, ◌-◌, ◌*◌, ◌≤◌, eqb, leb, ltb, ℤ, pos, length}
use Rattle.number.specs.Zed.{up}
use Rattle.cells.specs.Cell.{cell_z}
use Rattle.memory.specs.Fields.{shown_start, is_longest}

-- each cell as a natural number, 0 for a negative one, and as itself
pub record State : Type 0 where
  pub act : ℕ → ℕ → ℕ
  pub link : ℕ → ℕ → ℕ
  pub act_z : ℕ → ℕ → ℤ
  pub link_z : ℕ → ℕ → ℤ

-- room for the rows of a activities and l links
abbrev pub Room : ℕ → ℕ → List ℤ → Type 0
Room a l xs = 64 * a + 16 * l ≤ length xs

-- where row i of field f stands in a table of n rows: eight fields of a result row by row, every other in a column of its own
unfoldable pub place : ℕ → ℕ → ℕ → ℕ
place n f i = cond (leb shown_start f && leb f is_longest) (shown_start * n + 8 * i + (f - shown_start)) (f * n + i)

-- the cells from base on, as `size` fields of n rows: 0 outside
abbrev pub table : ℕ → ℕ → ℕ → List ℤ → ℕ → ℕ → ℤ
table base size n xs f i = cond (ltb f size) (cond (ltb i n) (cell_z xs (base + place n f i)) (pos 0)) (pos 0)

unfoldable pub state_of : ℕ → ℕ → List ℤ → State
state_of a l xs = record {
  act = λ f i. up (table 0 64 a xs f i);
  link = λ f k. up (table (64 * a) 16 l xs f k);
  act_z = table 0 64 a xs;
  link_z = table (64 * a) 16 l xs;
}

abbrev pub zero_state : State
zero_state = record { act = λ f i. 0; link = λ f k. 0; act_z = λ f i. pos 0; link_z = λ f k. pos 0 }

-- t with v at field f of row i; the field is tested first, so that another field is as it was
abbrev pub replaced : {A : Type 0} → (ℕ → ℕ → A) → ℕ → ℕ → A → ℕ → ℕ → A
replaced t f i v g j = cond (eqb g f) (cond (eqb j i) v (t g j)) (t g j)

abbrev pub put_act_z : State → ℕ → ℕ → ℤ → State
put_act_z S f i z = record { act = replaced S.act f i (up z); link = S.link; act_z = replaced S.act_z f i z; link_z = S.link_z }

abbrev pub put_act : State → ℕ → ℕ → ℕ → State
put_act S f i v = put_act_z S f i (pos v)

abbrev pub put_link_z : State → ℕ → ℕ → ℤ → State
put_link_z S f k z = record { act = S.act; link = replaced S.link f k (up z); act_z = S.act_z; link_z = replaced S.link_z f k z }

abbrev pub put_link : State → ℕ → ℕ → ℕ → State
put_link S f k v = put_link_z S f k (pos v)

-- t with v at field f of each of the first n rows
abbrev pub filled_to : {A : Type 0} → (ℕ → ℕ → A) → ℕ → ℕ → A → ℕ → ℕ → A
filled_to t f n v g j = cond (eqb g f) (cond (ltb j n) v (t g j)) (t g j)

abbrev pub fill_act : State → ℕ → ℕ → ℕ → State
fill_act S f n v = record { act = filled_to S.act f n v; link = S.link; act_z = filled_to S.act_z f n (pos v); link_z = S.link_z }
