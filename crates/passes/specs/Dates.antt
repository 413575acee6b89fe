-- Dates as functions from an activity to a minute, and passes over the order that a refusal ends.
use Rattle.std.specs.Prelude.{true, false, List, [], ◌∷◌, ℕ, eqb}
use Rattle.worktime.specs.declared.ClockError.{ClockError}

-- early start, early finish and minutes of work left
pub record Early : Type 0 where
  pub es : ℕ → ℕ
  pub ef : ℕ → ℕ
  pub left : ℕ → ℕ

-- late start and late finish
pub record Late : Type 0 where
  pub ls : ℕ → ℕ
  pub lf : ℕ → ℕ

-- the early dates after held late moves, and the free floats in minutes
pub record Freed : Type 0 where
  pub early : Early
  pub free : ℕ → ℕ

-- what a pass leaves, or the refusal of one of its walks
pub data Pass (A : Type 0) : Type 0 where
  leaves : A → Pass A
  refused : ClockError → Pass A

abbrev pub after : {A B : Type 0} → Pass A → (A → Pass B) → Pass B
after (leaves x) go = go x
after (refused k) go = refused k

-- the function with v in place of what it has at i
abbrev pub put : {A : Type 0} → (ℕ → A) → ℕ → A → ℕ → A
put f i v j = elim (eqb j i) [ true ↦ v | false ↦ f j ]

-- a step for each of a row of activities, in turn
unfoldable pub through : {A : Type 0} → (A → ℕ → Pass A) → List ℕ → A → Pass A
through step [] x = leaves x
through step (i ∷ is) x = after (step x i) (through step is)
