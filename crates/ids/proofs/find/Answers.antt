-- `ids::find` meets its contract.
use mathlib.Core.Path.{◌≡◌, ap, sym}
use native.Mathlib.Omega.{arith}
use Prim.Native.Nat.{ℕ, ◌≤◌, ◌<◌}
use Rattle.std.specs.Prelude.{unwrap_or, IfSome, Result, Ok, Err}
use Rattle.std.specs.Result.{result_ok}
use Rattle.memory.specs.State.{State}
use Rattle.order.specs.Plan.{Plan, plan_of, plan_in}
use Rattle.ids.specs.declared.Vacancy.{Vacancy}
use Rattle.ids.specs.Index.{found_in}
use Rattle.memory.specs.Seen.{state}
use Rattle.ids.specs.Searched.{Searched}
use Rattle.ids.proofs.find.Goals as goal

pub returns-then-n-eq0 : goal.returns-then-n-eq0
unfolding plan_of found_in
returns-then-n-eq0 g c =
    let x = c.args in
    (sym (ap (λ (n : ℕ). found_in (plan_in x.sheet.now) n x.id) c.if-n-eq0.true), tt)

-- the place where one comes in is left out
left_out : (p : Plan) (S : State) (n id : ℕ) → n ≤ p.activities → (r : Result ℕ Vacancy) → Searched p S n id r
    → (unwrap_or (result_ok r) p.activities ≡ found_in p n id) × IfSome (result_ok r) (λ j. j < p.activities)
left_out p S n id l (Ok j) h = (sym h.0, omega (arith, h.1))
left_out p S n id l (Err v) h = (sym h.0, tt)

pub returns : goal.returns
unfolding plan_of
returns g c =
    let x = c.args in
    rw c.ok.ensures.value (left_out (plan_in x.sheet.now) (state (g.R.Reads.tables x.tables.now)) x.n x.id c.requires.1 _ c.seek.ensures)
