-- The lent tables as a state, and what a function that writes them leaves as it was.
use Rattle.std.specs.Prelude.{◌≡◌, length}
use Rattle.memory.specs.State.{State, state_of}
use Rattle.memory.specs.declared.Tables.{Tables}

unfoldable pub state : Tables → State
state t = state_of t.activities t.links t.cells.now

-- t is of the sizes of s and in the same slice, which is as long as it was
-- a clause, and no type's field: it relates what a function found to what it leaves
pub record SameLent (s t : Tables) : Type 0 where
  pub activities : t.activities ≡ s.activities
  pub links : t.links ≡ s.links
  pub cells : length t.cells.now ≡ length s.cells.now
  pub lent : t.cells.ghost_name ≡ s.cells.ghost_name

-- and as many links are kept
pub record SameSlice (s t : Tables) : Type 0 where
  pub activities : t.activities ≡ s.activities
  pub links : t.links ≡ s.links
  pub kept : t.kept ≡ s.kept
  pub cells : length t.cells.now ≡ length s.cells.now
  pub lent : t.cells.ghost_name ≡ s.cells.ghost_name
