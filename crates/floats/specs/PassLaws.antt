-- What the pass's step leaves for the next, and the pass from no free float on.
use Rattle.std.specs.Prelude.{◌≡◌, refl, List, ℕ, Result}
use Rattle.worktime.specs.declared.ClockError.{ClockError}
use Rattle.std.proofs.Common.{sym, ap, ◌∙◌}
use Rattle.memory.specs.State.{State, fill_act}
use Rattle.memory.specs.Fields as fields
use Rattle.topology.specs.Frame.{Frame}
use Rattle.sheet.specs.declared.Contents.{Contents}
use Rattle.order.specs.Plan.{Plan, plan_of}
use Rattle.passes.specs.Dates.{Late, Freed, through}
use Rattle.passes.specs.Floats.{free_float}
use Rattle.dates.specs.Columns.{early_in, late_in, ended}
use Rattle.dates.specs.KeptLaws.{late_kept}
use Rattle.bounds.specs.ReadyLaws.{activities_are}
use Rattle.floats.specs.Slack.{freed_in}
use Rattle.floats.specs.StoreLaws.{free_cleared}

-- the step's turn, with the late dates as they were before the pass
pub turn_kept : {S T : State} → Frame 12 16 0 0 S T → (p : Plan) (finish e : ℕ) → free_float p finish (late_in p T e) ≡ free_float p finish (late_in p S e)
turn_kept F p finish e = ap (λ (l : Late). free_float p finish l) (late_kept F p refl refl e)

-- and one step so
pub step_kept : {S T : State} → Frame 12 16 0 0 S T → (p : Plan) (finish i : ℕ) (y : Freed) (r : Result Unit ClockError)
    → ((e : ℕ) → ended y r ≡ free_float p finish (late_in p T e) (freed_in p T) i)
    → (e : ℕ) → ended y r ≡ free_float p finish (late_in p S e) (freed_in p T) i
step_kept {S} {T} F p finish i y r h e = h e ∙ ap (λ (l : Late). free_float p finish l (freed_in p T) i) (late_kept F p refl refl e)

-- the pass from no free float on
pub pass_cleared : (s : List ℕ) (c : Contents) {S T : State} → Frame 12 16 0 0 S T → T ≡ fill_act S fields.free_float c.activities 0
    → (finish : ℕ) (rows : List ℕ) (e : ℕ)
    → through (free_float (plan_of s c) finish (late_in (plan_of s c) T e)) rows (freed_in (plan_of s c) T)
    ≡ through (free_float (plan_of s c) finish (late_in (plan_of s c) S e)) rows (record { early = early_in (plan_of s c) S; free = λ i. 0 })
pass_cleared s c {S} {T} F h finish rows e =
    let p = plan_of s c in
    let x : freed_in p T ≡ record { early = early_in p S; free = λ i. 0 } =
    ap (freed_in p) (h ∙ ap (λ (n : ℕ). fill_act S fields.free_float n 0) (sym (activities_are s c))) ∙ free_cleared p S
    in
    let y = late_kept F p refl refl e in
    λ z. through (free_float p finish (y z)) rows (x z)
