-- Demand 3's words on loops, over ids and records alone: "Kept links close a loop if some row of at least two ids, its last the same as its
-- first, has a kept link of any type from each id to the next"; and likewise for parents.
use Rattle.std.specs.Prelude.{◌≡◌, false, List, [], ◌∷◌, ◌≢◌, ℕ, ◌-◌, ◌≤◌, ◌<◌, length, get_or}
use Rattle.order.specs.Plan.{Plan}
use Rattle.order.specs.Ids.{id_of}
use Rattle.order.specs.Ties.{ignored}

-- "from each id to the next"
abbrev pub Steps : (ℕ → ℕ → Type 0) → List ℕ → Type 0
Steps R [] = Unit {0}
Steps R (x ∷ []) = Unit {0}
Steps R (x ∷ y ∷ ys) = R x y × Steps R (y ∷ ys)

-- "some row of at least two ids, its last the same as its first"
pub record LoopOf (R : ℕ → ℕ → Type 0) (xs : List ℕ) : Type 0 where
  pub long : 2 ≤ length xs
  pub closed : get_or xs (length xs - 1) 0 ≡ get_or xs 0 0
  pub steps : Steps R xs

module _ (p : Plan) where
  -- "a kept link of any type" from id a to id b
  pub record KeptLink (a b : ℕ) : Type 0 where
    pub link : ℕ
    pub within : link < p.links
    pub kept : ignored p link ≡ false
    pub leaves : (p.link link).predecessor ≡ a
    pub enters : (p.link link).successor ≡ b

  abbrev pub LoopOfIds : List ℕ → Type 0
  LoopOfIds = LoopOf KeptLink

  abbrev pub KeptLinksCloseLoop : Type 0
  KeptLinksCloseLoop = (xs : List ℕ) × LoopOfIds xs

  -- an activity with id a names id b as its parent: "parent u32 (0 none)"
  pub record Under (a b : ℕ) : Type 0 where
    pub activity : ℕ
    pub within : activity < p.activities
    pub has : id_of p activity ≡ a
    pub some : b ≢ 0
    pub under : (p.activity activity).parent ≡ b

  abbrev pub LoopOfParents : List ℕ → Type 0
  LoopOfParents = LoopOf Under

  -- "parents close a loop"
  abbrev pub ParentsCloseLoop : Type 0
  ParentsCloseLoop = (xs : List ℕ) × LoopOfParents xs

  -- "a parent of any activity"
  abbrev pub IsParent : ℕ → Type 0
  IsParent id = (a : ℕ) × Under a id
