-- The days that a walk may read: those of the years -9999 to 9999. Days are counted from the first that an i32 can name, so that day 2 ^ 31 is 1 January 1970.
use Rattle.std.specs.Prelude.{◌≡◌, Bool, true, false, ◌&&◌, ℕ, ◌≤◌, ◌<◌, leb, ltb}
use Rattle.std.proofs.Common.{sym, ◌∙◌, true≢false, ⊎_elim, arith, lt-ltb, le-ltb, le-leb}
use Rattle.std.proofs.lemmas.Bool.{lt-leb}
use Rattle.number.specs.Order.{lt_or_le}

-- 1 January -9999
abbrev pub first_day : ℕ
first_day = 2143112061

-- 1 January 10000, the day after the last
abbrev pub end_day : ℕ
end_day = 2150416545

unfoldable pub in_years : ℕ → Bool
in_years day = leb first_day day && ltb day end_day

-- ---- the three ways of the test
pub years_before : (day : ℕ) → day < first_day → in_years day ≡ false
unfolding in_years
years_before day h = rw (lt-leb first_day day h)

pub years_after : (day : ℕ) → end_day ≤ day → in_years day ≡ false
unfolding in_years
years_after day h = rw (le-leb first_day day (omega arith), le-ltb day end_day h)

pub years_within : (day : ℕ) → first_day ≤ day → day < end_day → in_years day ≡ true
unfolding in_years
years_within day h k = rw (le-leb first_day day h, lt-ltb day end_day k)

pub years_in : (day : ℕ) → in_years day ≡ true → (first_day ≤ day) × (day < end_day)
years_in day e =
    ⊎_elim (λ l. absurd (true≢false (sym e ∙ years_before day l)))
    (λ l. ⊎_elim (λ r. (l, r)) (λ r. absurd (true≢false (sym e ∙ years_after day r))) (lt_or_le day end_day)) (lt_or_le day first_day)
