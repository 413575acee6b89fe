-- What a pass's step needs stands after the steps before it, and its turn is that of the memory before the pass.
use Rattle.std.specs.Prelude.{◌≡◌, List, ℕ, ◌+◌, ◌≤◌, ◌<◌, length, get_or, Result, Ok, Err}
use Rattle.std.proofs.Common.{ap, ◌∙◌, arith}
use Rattle.worktime.specs.declared.ClockError.{ClockError}
use Rattle.memory.specs.State.{State}
use Rattle.memory.specs.declared.Tables.{Tables}
use Rattle.memory.specs.Seen.{state, SameSlice}
use Rattle.memory.specs.SeenLaws.{same_then}
use Rattle.memory.specs.Fields.{recorded_as, recorded_start, recorded_finish}
use Rattle.topology.specs.Frame.{Frame}
use Rattle.topology.specs.FrameLaws.{outside_above, frame_then}
use Rattle.order.specs.Plan.{plan_in}
use Rattle.passes.specs.Dates.{Pass, through}
use Rattle.dates.specs.Columns.{ended}
use Rattle.dates.specs.Standing.{Lent}
use Rattle.dates.specs.KeptLaws.{ready_kept, recorded_kept}
use Rattle.dates.specs.ThroughLaws.{Through, through_turn, through_stop, through_end}
use Rattle.calendars.specs.declared.plan_sheet.PlanSheet.{PlanSheet}

pub stands : {lo hi : ℕ} {plan : PlanSheet} {tables tables' : Tables} → (10 ≤ lo) × (hi ≤ 17)
    → Lent plan tables → SameSlice tables tables' → Frame lo hi 0 0 (state tables) (state tables')
    → Lent plan tables'
stands {lo} {hi} {plan} f R e F = record {
  ready = ready_kept R.ready F e f.0;
  recorded = recorded_kept F (plan_in plan.sheet) (outside_above lo hi recorded_as (omega (arith, f.1))) (outside_above lo hi recorded_start (omega (arith, f.1))) (outside_above lo hi recorded_finish (omega (arith, f.1))) R.recorded;
}

-- what a step answers, by another turn that is the same
pub by_turn : {D P : Type 0} {x : P} {f g : D → ℕ → P} (d : D) (i : ℕ) → x ≡ f d i → f ≡ g → x ≡ g d i
by_turn {D} {P} d i e k = e ∙ ap (λ (h : D → ℕ → P). h d i) k

-- ---- a pass over `rows`, onward or back, as its loop takes it
module _ (lo hi : ℕ) {D past : Type 0} (seen : State → past → D) (turn : State → past → D → ℕ → Pass D) (rows : List ℕ) where
  -- q activities are done; the rest stands
  abbrev pub Passed : Tables → Tables → ℕ → Type 0
  Passed before now q =
      SameSlice before now × Frame lo hi 0 0 (state before) (state now)
      × ((x : past) → Through (turn (state before) x) rows (seen (state before) x) (seen (state now) x) q)

  -- what the pass answers
  abbrev pub Answered : Tables → Tables → Result Unit ClockError → Type 0
  Answered before now r =
      ((x : past) → ended (seen (state now) x) r ≡ through (turn (state before) x) rows (seen (state before) x))
      × Frame lo hi 0 0 (state before) (state now) × SameSlice before now

  module _ {before now : Tables} {q : ℕ} (v : Passed before now q) where
    pub pass_end : length rows ≤ q → Answered before now (Ok tt)
    pass_end l = (λ x. through_end (turn (state before) x) rows (seen (state before) x) (v.2 x) l, v.1, v.0)

    -- a turn reads nothing else of what is written
    module _ (kept : (S T : State) → Frame lo hi 0 0 S T → (x : past) → turn T x ≡ turn S x) (i : ℕ) (at : i ≡ get_or rows q 0) (l : q < length rows) {next : Tables} (r : Result Unit ClockError)
        (b : ((x : past) → ended (seen (state next) x) r ≡ turn (state now) x (seen (state now) x) i)
        × Frame lo hi 0 0 (state now) (state next) × SameSlice now next) where
      by_first : (x : past) → ended (seen (state next) x) r ≡ turn (state before) x (seen (state now) x) i
      by_first x = by_turn (seen (state now) x) i (b.0 x) (kept (state before) (state now) v.1 x)

      pub pass_turn : r ≡ (Ok tt) → Passed before next (q + 1)
      pass_turn e = (
        same_then v.0 b.2,
        frame_then lo hi 0 0 v.1 b.1,
        λ x. through_turn (turn (state before) x) rows (seen (state before) x) (v.2 x) i at l (seen (state next) x) r (by_first x) e,
      )

      pub pass_stop : (k : ClockError) → r ≡ Err k → Answered before next (Err k)
      pass_stop k e = (
        λ x. through_stop (turn (state before) x) rows (seen (state before) x) (v.2 x) i at l (seen (state next) x) r (by_first x) (seen (state next) x) k e,
        frame_then lo hi 0 0 v.1 b.1,
        same_then v.0 b.2,
      )
