-- The walk along the links into an activity, as a loop takes it; and whether the activity is a summary.
use Rattle.std.specs.Prelude.{◌≡◌, Bool, List, [], ◌∷◌, ℕ, ◌-◌, ◌<◌, max, ltb, Result, Ok, Err}
use Rattle.worktime.specs.declared.ClockError.{ClockError}
use Rattle.std.proofs.Common.{sym, ap, ◌∙◌, arith}
use Rattle.number.specs.BitLaws.{mark_flag}
use Rattle.placing.specs.Placing.{via}
use Rattle.cells.specs.Chain.{after, gather}
use Rattle.cells.specs.ChainLaws.{Along, along_start, along_turn, along_stop, along_end}
use Rattle.memory.specs.State.{State}
use Rattle.memory.specs.declared.Tables.{Tables}
use Rattle.memory.specs.Seen.{state}
use Rattle.memory.specs.Fields.{to_field, next_into, is_summary}
use Rattle.order.specs.Plan.{Plan, plan_in}
use Rattle.order.specs.Ids.{summary}
use Rattle.passes.specs.Plan.{ties_into}
use Rattle.passes.specs.Dates.{Early}
use Rattle.passes.specs.Forward.{link_start, raised}
use Rattle.dates.specs.Columns.{early_in}
use Rattle.dates.specs.Standing.{Ready}
use Rattle.dates.specs.StandingLaws.{into_is}
use Rattle.bounds.specs.ReadyLaws.{activities_are}
use Rattle.forward.specs.LinkedLaws.{raise_step, raised_gathers, raise_turn, raise_stop}
use Rattle.calendars.specs.declared.plan_sheet.PlanSheet.{PlanSheet}

module _ (plan : PlanSheet) (tables : Tables) (i floor : ℕ) where
  abbrev pub p : Plan
  p = plan_in plan.sheet

  abbrev pub seen : State
  seen = state tables

  abbrev pub dates : Early
  dates = early_in p seen

  -- the links ks are left, and the start so far
  abbrev pub Raising : ℕ → List ℕ → Type 0
  Raising start ks = Along (raise_step p dates i) Ok (seen.link to_field) tables.kept i floor start ks

  module _ (R : Ready plan tables) where
    pub raising_start : Raising floor (after (seen.link to_field) tables.kept i 0)
    raising_start = along_start (raise_step p dates i) Ok (seen.link to_field) tables.kept i floor

    whole : gather (raise_step p dates i) Ok (after (seen.link to_field) tables.kept i 0) floor ≡ raised p dates i (ties_into p i) floor
    whole =
        sym (raised_gathers p dates i (after (seen.link to_field) tables.kept i 0) floor)
        ∙ ap (λ (ks : List ℕ). raised p dates i ks floor) (into_is p R.standing i)

    module _ {start : ℕ} where
      pub raising_end : Raising start [] → Ok start ≡ raised p dates i (ties_into p i) floor
      raising_end W = along_end (raise_step p dates i) Ok (seen.link to_field) tables.kept i floor W ∙ whole

      module _ {k : ℕ} {ks : List ℕ} (W : Raising start (k ∷ ks)) {x : Result ℕ ClockError} (e : x ≡ via Err (link_start p dates i k) (λ s. Ok (max start s))) where
        pub raising_stop : (r : ClockError) → x ≡ Err r → Err r ≡ raised p dates i (ties_into p i) floor
        raising_stop r a =
            along_stop (raise_step p dates i) Ok (seen.link to_field) tables.kept i floor W (Err r) (raise_stop p dates i k start e r a) ∙ whole

        pub raising_turn : (u : ℕ) → x ≡ Ok u → Raising u ks
        raising_turn u a = along_turn (raise_step p dates i) Ok (seen.link to_field) tables.kept i floor W u (raise_turn p dates i k start e u a)

    pub raising_less : (k j : ℕ) → k < tables.kept → j ≡ seen.link next_into k → tables.kept - j < tables.kept - k
    raising_less k j b q = omega (arith, (R.standing.chains_in.nexts k (omega arith) b).low)

    -- ---- a summary
    module _ (l : i < plan.sheet.contents.activities) where
      within : i < (plan_in plan.sheet).activities
      within = omega (arith, activities_are plan.sheet.bytes.now plan.sheet.contents)

      pub flag_is : {b : Bool} → b ≡ ltb 0 (seen.act is_summary i) → b ≡ summary (plan_in plan.sheet) i
      flag_is e = e ∙ mark_flag (summary (plan_in plan.sheet) i) (R.standing.marks i within)
