-- Trees of rows, `a` of them: a row stands in the tree of its id's remainder by a, and the bits of the quotient, from the lowest on, lead from the root to it.
use Rattle.std.specs.Prelude.{◌≡◌, ℕ, suc, ◌/◌, ◌%◌, ◌<◌}
use Rattle.memory.specs.Fields.{root}

-- field b of row j: 0 for no child where the next bit is b, and else one more than the child; field `root` of row r: the same for the root of tree r
abbrev pub Children : Type 0
Children = ℕ → ℕ → ℕ

-- going on by the bits of `rest` from row j, one comes to row m with the bits of `left` to go
pub data Way (t : Children) (left m : ℕ) : ℕ → ℕ → Type 0 where
  here : Way t left m left m
  down : {rest j : ℕ} (k : ℕ) → t (rest % 2) j ≡ suc k → Way t left m (rest / 2) k → Way t left m rest j

-- the id d leads from the root of its tree to row m with the bits of `left` to go
abbrev pub Leads : ℕ → Children → ℕ → ℕ → ℕ → Type 0
Leads a t d left m = (k : ℕ) × (t root (d % a) ≡ suc k) × Way t left m (d / a) k

module _ (id : ℕ → ℕ) (a : ℕ) (t : Children) where
  -- the first n rows: a child comes after its parent, roots are among them, and each is reached
  pub record Trees (n : ℕ) : Type 0 where
    pub later : (b j k : ℕ) → b < 2 → j < n → t b j ≡ suc k → (j < k) × (k < n)
    pub roots : (r k : ℕ) → t root r ≡ suc k → k < n
    pub reached : (m : ℕ) → m < n → (left : ℕ) × Leads a t (id m) left m

-- the row and the field where a row with the id d comes in after the first n: none stands there yet, and d leads to it
module _ (a : ℕ) (t : Children) (n d : ℕ) where
  pub data Vacant : ℕ → ℕ → Type 0 where
    at_root : t root (d % a) ≡ 0 → Vacant (d % a) root
    at_child : {left parent : ℕ} → parent < n → t (left % 2) parent ≡ 0 → Leads a t d left parent → Vacant parent (left % 2)

-- row i has no children
abbrev pub Leaf : Children → ℕ → Type 0
Leaf t i = (b : ℕ) → b < 2 → t b i ≡ 0
