-- "Order is Kahn's, first in first out", and the loop that is named where some activities never come out.
use Rattle.std.specs.Prelude.{Bool, true, false, ◌&&◌, ◌||◌, not, List, [], ◌∷◌, ◌++◌, reverse, ℕ, zero, suc, ◌-◌, eqb, get_or}
use Rattle.network.specs.Links.{Link}

-- how many links still to be met lead into each activity, and which activities wait for none, first in first
pub record Waiting : Type 0 where
  pub count : ℕ → ℕ
  pub queue : List ℕ

-- the function with u in place of what it has at j
unfoldable pub put : (ℕ → ℕ) → ℕ → ℕ → ℕ → ℕ
put f j u x = elim (eqb x j) [ true ↦ u | false ↦ f x ]

-- j at the end of the queue if it waits for none
unfoldable pub joined : ℕ → ℕ → List ℕ → List ℕ
joined zero j q = q ++ (j ∷ [])
joined (suc k) j q = q

-- a link into j is met
unfoldable pub meet : ℕ → Waiting → Waiting
meet j s = record { count = put s.count j (s.count j - 1); queue = joined (s.count j - 1) j s.queue }

-- v is out: its outgoing links are met, in their order
unfoldable pub release : ℕ → List Link → Waiting → Waiting
release v [] s = s
release v (l ∷ ls) s = release v ls (elim (eqb l.from v) [ true ↦ meet l.to s | false ↦ s ])

-- at most f activities come out, each from the front of the queue; `out` holds them, the last one first
pub record Drained : Type 0 where
  pub count : ℕ → ℕ
  pub out : List ℕ

unfoldable pub drain : List Link → ℕ → (ℕ → ℕ) → List ℕ → List ℕ → Drained
drain links zero c q out = record { count = c; out = out }
drain links (suc f) c [] out = record { count = c; out = out }
drain links (suc f) c (v ∷ q) out =
    let s = release v links (record { count = c; queue = q }) in drain links f s.count s.queue (v ∷ out)

-- the links into x
unfoldable pub into : List Link → ℕ → ℕ
into [] x = 0
into (l ∷ ls) x = elim (eqb l.to x) [ true ↦ suc (into ls x) | false ↦ into ls x ]

-- the activities below n that wait for none
unfoldable pub ready : (ℕ → ℕ) → ℕ → List ℕ
ready c zero = []
ready c (suc n) = joined (c n) n (ready c n)

unfoldable pub drained : List Link → ℕ → Drained
drained links n = drain links n (into links) (ready (into links) n) []

-- the order of n activities, as far as it comes
unfoldable pub kahn : List Link → ℕ → List ℕ
kahn links n = reverse (drained links n).out

-- ---- the loop that is named: "from the first activity in sheet order that still waits, back along each one's first waiting predecessor
-- in link order until one repeats; that loop reversed, its first again at the end"
module _ (links : List Link) (c : ℕ → ℕ) where
  -- the first of the k activities from i on that still waits
  unfoldable pub first_waiting : ℕ → ℕ → ℕ
  first_waiting zero i = i
  first_waiting (suc k) i = elim (eqb (c i) 0) [ true ↦ first_waiting k (suc i) | false ↦ i ]

  -- x's first predecessor in link order that still waits
  unfoldable pub waiting_before : List Link → ℕ → ℕ
  waiting_before [] x = x
  waiting_before (l ∷ ls) x = elim (eqb l.to x && not (eqb (c l.from) 0)) [ true ↦ l.from | false ↦ waiting_before ls x ]

  unfoldable pub member : ℕ → List ℕ → Bool
  member x [] = false
  member x (y ∷ ys) = eqb x y || member x ys

  -- the row up to x
  unfoldable pub up_to : ℕ → List ℕ → List ℕ
  up_to x [] = []
  up_to x (y ∷ ys) = y ∷ elim (eqb x y) [ true ↦ [] | false ↦ up_to x ys ]

  -- back from x at most f times; `seen` holds what was passed, the last one first, which is the order of the links
  unfoldable pub go_back : ℕ → ℕ → List ℕ → List ℕ
  go_back zero x seen = up_to x seen
  go_back (suc f) x seen = elim (member x seen) [ true ↦ up_to x seen | false ↦ go_back f (waiting_before links x) (x ∷ seen) ]

-- the first once more at the end
unfoldable pub again : List ℕ → List ℕ
again xs = xs ++ (get_or xs 0 0 ∷ [])

unfoldable pub named_loop : List Link → ℕ → List ℕ
named_loop links n =
    let c = (drained links n).count in
    again (go_back links c n (first_waiting links c n 0) [])
