-- Links between activities, which are numbered from 0 in sheet order, and what it is for links to close a loop.
use Rattle.std.specs.Prelude.{◌≡◌, List, [], ◌∷◌, ℕ, ◌-◌, ◌≤◌, ◌<◌, length, get_or}
use Rattle.network.specs.declared.Link as code

-- a link from one activity to another, as the code has it
abbrev pub Link : Type 0
Link = code.Link

abbrev pub no_link : Link
no_link = record { from = 0; to = 0 }

-- "a kept link of any type from each id to the next": some link leads from i to j
pub record Linked (links : List Link) (i j : ℕ) : Type 0 where
  pub place : ℕ
  pub within : place < length links
  pub leaves : (get_or links place no_link).from ≡ i
  pub enters : (get_or links place no_link).to ≡ j

-- each of a row is linked to the next
abbrev pub Row : List Link → List ℕ → Type 0
Row links [] = Unit {0}
Row links (x ∷ []) = Unit {0}
Row links (x ∷ y ∷ ys) = Linked links x y × Row links (y ∷ ys)

-- "some row of at least two ids, its last the same as its first, has a kept link of any type from each id to the next"
pub record Loop (links : List Link) (xs : List ℕ) : Type 0 where
  pub long : 2 ≤ length xs
  pub closed : get_or xs (length xs - 1) 0 ≡ get_or xs 0 0
  pub row : Row links xs

-- "Kept links close a loop if some row [..]"
abbrev pub CloseLoop : List Link → Type 0
CloseLoop links = (xs : List ℕ) × Loop links xs

-- an order of n activities, first first: each stands in it once, and what is linked to it stands before it
pub record Ordered (links : List Link) (n : ℕ) (order : List ℕ) : Type 0 where
  pub all : length order ≡ n
  pub below : (p : ℕ) → p < n → get_or order p 0 < n
  pub once : (p q : ℕ) → p < n → q < n → get_or order p 0 ≡ get_or order q 0 → p ≡ q
  pub before : (p i : ℕ) → p < n → Linked links i (get_or order p 0) → (q : ℕ) × (q < p) × (get_or order q 0 ≡ i)
