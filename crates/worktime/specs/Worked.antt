-- 01's words of the clock over any set `w` of worked minutes, as relations that know no limit of years.
use Rattle.std.specs.Prelude.{◌≡◌, Bool, true, false, ℕ, zero, suc, ◌+◌, ◌≤◌, ◌<◌}
use Rattle.number.specs.Bit.{bit}

-- The worked minutes below t.
unfoldable pub count : (ℕ → Bool) → ℕ → ℕ
count w zero = 0
count w (suc t) = count w t + bit (w t)

-- "A closing minute follows a worked one."
unfoldable pub closing : (ℕ → Bool) → ℕ → Bool
closing w zero = false
closing w (suc t) = w t

module _ (w : ℕ → Bool) where
  -- "Next start: least worked minute at or after t."
  pub record IsNextStart (t u : ℕ) : Type 0 where
    pub after : t ≤ u
    pub worked : w u ≡ true
    pub least : (v : ℕ) → t ≤ v → w v ≡ true → u ≤ v

  -- "Previous finish: greatest closing minute at or before t."
  pub record IsPreviousFinish (t u : ℕ) : Type 0 where
    pub before : u ≤ t
    pub closes : closing w u ≡ true
    pub greatest : (v : ℕ) → v ≤ t → closing w v ≡ true → v ≤ u

  -- "Next finish: t if closing, else next start."
  pub record IsNextFinish (t u : ℕ) : Type 0 where
    pub here : closing w t ≡ true → u ≡ t
    pub later : closing w t ≡ false → IsNextStart t u

  -- "Advance n > 0: the closing minute with n worked minutes from t. For n ≤ 0 [..] t."
  pub record IsAdvance (t n u : ℕ) : Type 0 where
    pub still : n ≡ 0 → u ≡ t
    pub closes : 0 < n → closing w u ≡ true
    pub total : count w u ≡ count w t + n

  -- "Retreat n > 0: the worked minute with n from it up to t. For n ≤ 0 [..] t."
  pub record IsRetreat (t n u : ℕ) : Type 0 where
    pub still : n ≡ 0 → u ≡ t
    pub worked : 0 < n → w u ≡ true
    pub total : count w u + n ≡ count w t
