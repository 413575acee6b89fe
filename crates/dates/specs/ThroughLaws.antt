-- A pass over a row of activities as a loop takes it: what is left of it from place q on is what there was at the start.
use Rattle.std.specs.Prelude.{◌≡◌, refl, ℕ, zero, suc, ◌+◌, ◌≤◌, ◌<◌, length, get_or, drop, Result, Ok, Err}
use Rattle.worktime.specs.declared.ClockError.{ClockError}
use Rattle.std.proofs.Common.{sym, ◌∙◌, arith}
use Rattle.std.proofs.Math.Path.{ap}
use mathlib.Core.List.{List, [], ◌∷◌}
use Rattle.passes.specs.Dates.{Pass, leaves, refused, after, through}
use Rattle.dates.specs.Columns.{ended}

-- ---- `ended` by its answer
pub ended_done : {A : Type 0} (x : A) (r : Result Unit ClockError) → r ≡ (Ok tt) → ended x r ≡ leaves x
ended_done x r e = rw e

pub ended_refused : {A : Type 0} (x : A) (r : Result Unit ClockError) (k : ClockError) → r ≡ Err k → ended x r ≡ refused k
ended_refused x r k e = rw e

drop_next : (rows : List ℕ) (q : ℕ) → q < length rows → drop q rows ≡ get_or rows q 0 ∷ drop (q + 1) rows
drop_next [] q l = absurd (omega arith)
drop_next (i ∷ is) zero l = refl
drop_next (i ∷ is) (suc q) l = let e : suc q + 1 ≡ suc (q + 1) = omega arith in rw e (drop_next is q (omega arith))

drop_past : (rows : List ℕ) (q : ℕ) → length rows ≤ q → drop q rows ≡ []
drop_past [] zero l = refl
drop_past [] (suc q) l = refl
drop_past (i ∷ is) zero l = absurd (omega arith)
drop_past (i ∷ is) (suc q) l = drop_past is q (omega arith)

module _ {A : Type 0} (step : A → ℕ → Pass A) (rows : List ℕ) (x₀ : A) where
  abbrev pub whole : Pass A
  whole = through step rows x₀

  -- q activities are done, and x is what there is
  pub record Through (x : A) (q : ℕ) : Type 0 where
    pub within : q ≤ length rows
    pub left : through step (drop q rows) x ≡ whole

  pub through_start : Through x₀ 0
  through_start = record { within = omega arith; left = refl }

  module _ {x : A} {q : ℕ} (T : Through x q) where
    next : q < length rows → after (step x (get_or rows q 0)) (through step (drop (q + 1) rows)) ≡ whole
    unfolding through
    next l = ap (λ (is : List ℕ). through step is x) (sym (drop_next rows q l)) ∙ T.left

    module _ (i : ℕ) (at : i ≡ get_or rows q 0) (l : q < length rows) (y : A) (r : Result Unit ClockError) (e : ended y r ≡ step x i) where
      on : after (ended y r) (through step (drop (q + 1) rows)) ≡ whole
      on = ap (λ (z : Pass A). after z (through step (drop (q + 1) rows))) (e ∙ ap (step x) at) ∙ next l

      pub through_turn : r ≡ (Ok tt) → Through y (q + 1)
      through_turn d = record { within = omega arith; left = ap (λ (z : Result Unit ClockError). after (ended y z) (through step (drop (q + 1) rows))) (sym d) ∙ on }

      -- whatever stands in the memory then
      pub through_stop : (z : A) (k : ClockError) → r ≡ Err k → ended z (Err k) ≡ whole
      through_stop z k d = ap (λ (w : Result Unit ClockError). after (ended y w) (through step (drop (q + 1) rows))) (sym d) ∙ on

    pub through_end : length rows ≤ q → ended x (Ok tt) ≡ whole
    unfolding through
    through_end l = ap (λ (is : List ℕ). through step is x) (sym (drop_past rows q l)) ∙ T.left
