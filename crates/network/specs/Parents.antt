-- Parents: `parent i` is 0 where activity i has none, and else one more than its parent's number.
use Rattle.std.specs.Prelude.{◌≡◌, true, false, List, [], ◌∷◌, ◌++◌, ℕ, zero, suc, ◌-◌, ◌<◌, eqb}

module _ (parent : ℕ → ℕ) where
  -- one step up, from none to none
  unfoldable pub above : ℕ → ℕ
  above zero = 0
  above (suc i) = parent i

  -- k steps up from activity i, again with 0 for none
  unfoldable pub climb : ℕ → ℕ → ℕ
  climb zero i = suc i
  climb (suc k) i = above (climb k i)

  -- i lies on a loop of parents
  pub record OnLoop (i : ℕ) : Type 0 where
    pub steps : ℕ
    pub some : 0 < steps
    pub back : climb steps i ≡ suc i

  -- the least number of steps from k on, among f, that leads from i to i; 0 where none does
  unfoldable pub steps_back : ℕ → ℕ → ℕ → ℕ
  steps_back zero k i = 0
  steps_back (suc f) k i = elim (eqb (climb k i) (suc i)) [ true ↦ k | false ↦ steps_back f (suc k) i ]

  -- the loop of parents through i, which n activities make n steps long at most; 0 where i lies on none
  unfoldable pub loop_steps : ℕ → ℕ → ℕ
  loop_steps n i = steps_back n 1 i

  -- i and those above it, k steps up
  unfoldable pub upward : ℕ → ℕ → List ℕ
  upward zero i = i ∷ []
  upward (suc k) i = upward k i ++ ((climb (suc k) i - 1) ∷ [])
