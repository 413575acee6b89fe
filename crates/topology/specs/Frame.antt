-- What a function leaves of the state: all fields but some that stand side by side.
use Rattle.std.specs.Prelude.{◌≡◌, Bool, true, not, ◌||◌, ℕ, ltb}
use Rattle.memory.specs.State.{State}

-- f is none of the fields from lo up to but not hi; of literals that is `refl`
abbrev pub outside : ℕ → ℕ → ℕ → Bool
outside lo hi f = ltb f lo || not (ltb f hi)

-- T is S but for the fields from lo up to hi of activities and from low up to high of links
-- a clause, and no type's field: it relates what a function found to what it leaves
pub record Frame (lo hi low high : ℕ) (S T : State) : Type 0 where
  pub acts : (f : ℕ) → outside lo hi f ≡ true → T.act f ≡ S.act f
  pub links : (f : ℕ) → outside low high f ≡ true → T.link f ≡ S.link f
  pub acts_z : (f : ℕ) → outside lo hi f ≡ true → T.act_z f ≡ S.act_z f
  pub links_z : (f : ℕ) → outside low high f ≡ true → T.link_z f ≡ S.link_z f
