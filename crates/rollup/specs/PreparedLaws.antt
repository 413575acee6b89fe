-- The preparation gives the roll-up what it needs.
use Rattle.std.specs.Prelude.{◌≡◌, Bool, eqb, ltb, Result, Ok, Err}
use Rattle.worktime.specs.declared.ClockError.{ClockError}
use Rattle.std.proofs.Math.Path.{refl, ap}
use Rattle.std.proofs.Common.{sym, ◌∙◌, arith}
use Rattle.std.proofs.Math.Bool.{true, false}
use Prim.Native.Nat.{ℕ, zero, suc, ◌≤◌, ◌<◌}
use Rattle.number.specs.Bit.{bit}
use Rattle.memory.specs.State.{State}
use Rattle.memory.specs.declared.Tables.{Tables}
use Rattle.memory.specs.Seen.{state}
use Rattle.memory.specs.Fields.{parent, is_summary, depth_of, first_deep, next_deep, first_child, shown_start, shown_finish, shown_late_start, shown_late_finish, total_float, shown_free, is_critical, is_longest, greatest_finish, greatest_late}
use Rattle.topology.specs.Frame.{Frame}
use Rattle.topology.specs.FrameLaws.{outside_below, frame_then, frame_wider}
use Rattle.network.specs.ParentLinks.{steps_out, depth}
use Rattle.network.specs.Depth.{depth_le}
use Rattle.order.specs.Plan.{Plan, plan_in}
use Rattle.order.specs.ParentLaws.{parent_le}
use Rattle.order.specs.Ids.{parent_of, summary}
use Rattle.passes.specs.Dates.{Pass, after, through}
use Rattle.passes.specs.Run.{Ran}
use Rattle.dates.specs.Columns.{ended}
use Rattle.dates.specs.Standing.{Ready}
use Rattle.dates.specs.FineLaws.{checked_fine}
use Rattle.results.specs.declared.Shown.{Shown}
use Rattle.results.specs.Results.{nothing, shown_below, deepest_first, rolled, results}
use Rattle.results.specs.View.{shown_to}
use Rattle.rollup.specs.Chained.{LinkedIn, KeysIn}
use Rattle.rollup.specs.Depths.{depth_key, DepthsTo}
use Rattle.rollup.specs.Prepared.{Prepared}
use Rattle.rollup.specs.Rolling.{deep_of, Deep, ToRoll}
use Rattle.calendars.specs.declared.plan_sheet.PlanSheet.{PlanSheet}

-- ---- depths are keys
low : (b : Bool) (n a : ℕ) → n ≤ a → elim b [ true ↦ 0 | false ↦ n ] ≤ a
low true n a l = omega arith
low false n a l = l

pub depths_in : (S T : State) (a : ℕ) → DepthsTo S T a a → KeysIn depth_of a T
unfolding depth_key
depths_in S T a D j b = omega (arith, D j b, low (eqb (S.act is_summary j) 0) (depth (S.act parent) a j) a (depth_le (S.act parent) a j))

-- ---- what is left
module _ (a : ℕ) (S T U X : State) where
  pub prepared : DepthsTo S T a a → Frame 30 31 0 0 S T → LinkedIn depth_of first_deep a 0 U → Frame 31 33 0 0 T U → LinkedIn parent first_child a 0 X → Frame 33 35 0 0 U X → Prepared a S X
  prepared D F K G L H = record {
    frame =
        frame_then 30 35 0 0 (frame_wider 30 35 0 0 30 31 0 0 (omega arith) (omega arith) (omega arith) (omega arith) F)
        (frame_then 30 35 0 0 (frame_wider 30 35 0 0 31 33 0 0 (omega arith) (omega arith) (omega arith) (omega arith) G)
        (frame_wider 30 35 0 0 33 35 0 0 (omega arith) (omega arith) (omega arith) (omega arith) H));
    depths = λ i b. ap (λ (f : ℕ → ℕ). f i) (H.acts depth_of refl ∙ G.acts depth_of refl) ∙ D i b;
    deep = rw (H.acts depth_of refl, H.acts first_deep refl, H.acts next_deep refl) K;
    children = L;
  }

-- ---- depths by the plan's parents
module _ (up to : ℕ → ℕ) (a : ℕ) (same : (i : ℕ) → i < a → up i ≡ to i) (within : (i : ℕ) → i < a → up i ≤ a) where
  steps_same : (f y : ℕ) → y ≤ a → steps_out up f y ≡ steps_out to f y
  unfolding steps_out
  steps_same zero y l = refl
  steps_same (suc f) zero l = refl
  steps_same (suc f) (suc i) l = ap suc (steps_same f (up i) (within i (omega arith)) ∙ ap (steps_out to f) (same i (omega arith)))

  pub depth_same : (n i : ℕ) → i < a → depth up n i ≡ depth to n i
  unfolding depth
  depth_same n i l = steps_same n (suc i) (omega arith)

key_deep : (b : Bool) (n : ℕ) → ◌≡◌ {A = ℕ} (elim (eqb (bit b) 0) [ true ↦ 0 | false ↦ n ]) (elim b [ true ↦ n | false ↦ 0 ])
key_deep true n = refl
key_deep false n = refl

module _ (p : Plan) (S T : State) (parents : (i : ℕ) → i < p.activities → S.act parent i ≡ parent_of p i) (marks : (i : ℕ) → i < p.activities → S.act is_summary i ≡ bit (summary p i))
    (within : (i : ℕ) → i < p.activities → parent_of p i ≤ p.activities) (P : Prepared p.activities S T) where
  pub deep_from : Deep p T
  unfolding depth_key deep_of
  deep_from = record {
    parents = λ j b. ap (λ (f : ℕ → ℕ). f j) (P.frame.acts parent refl) ∙ parents j b;
    depths = λ j b.
        P.depths j b
        ∙ (λ z. elim (eqb (marks j b z) 0) [
          | true ↦ 0
          | false ↦ depth_same (S.act parent) (parent_of p) p.activities parents (λ i l. omega (arith, parents i l, within i l)) p.activities j b z
        ])
        ∙ key_deep (summary p j) (depth (parent_of p) p.activities j);
    children = P.children;
    deep = P.deep;
  }

-- ---- the whole of the results
pub shown_kept : {lo hi : ℕ} {S T : State} → 30 ≤ lo → Frame lo hi 0 0 S T → (n : ℕ) → shown_to n T ≡ shown_to n S
shown_kept {lo} {hi} {S} {T} l F n = λ z i. elim (ltb i n) [
  | true ↦ record {
    days = record {
      es = at shown_start (omega arith) i z;
      ef = at shown_finish (omega arith) i z;
      ls = at shown_late_start (omega arith) i z;
      lf = at shown_late_finish (omega arith) i z;
    };
    total = F.acts_z total_float (outside_below lo hi total_float (omega arith)) z i;
    free = at shown_free (omega arith) i z;
    critical = ltb 0 (at is_critical (omega arith) i z);
    path = ltb 0 (at is_longest (omega arith) i z);
    finish = at greatest_finish (omega arith) i z;
    late = at greatest_late (omega arith) i z;
  }
  | false ↦ nothing
]
  where
    at : (f : ℕ) → f < 30 → (i : ℕ) → T.act f i ≡ S.act f i
    at f b i = ap (λ (c : ℕ → ℕ). c i) (F.acts f (outside_below lo hi f (omega arith)))

pub to_roll_kept : (p : Plan) {lo hi : ℕ} {S T : State} → 20 ≤ lo → Frame lo hi 0 0 S T → ToRoll p S → ToRoll p T
to_roll_kept p {lo} {hi} {S} {T} l F W = record {
  parents = λ j b. ap (λ (c : ℕ → ℕ). c j) (F.acts parent (outside_below lo hi parent (omega arith))) ∙ W.parents j b;
  marks = λ j b. ap (λ (c : ℕ → ℕ). c j) (F.acts is_summary (outside_below lo hi is_summary (omega arith))) ∙ W.marks j b;
  within = W.within;
}

pub keys_in : (p : Plan) (S : State) → ToRoll p S → KeysIn parent p.activities S
keys_in p S W j b = omega (arith, W.parents j b, W.within j b)

pub to_roll : {plan : PlanSheet} {tables : Tables} → Ready plan tables → ToRoll (plan_in plan.sheet) (state tables)
to_roll {plan} R = record {
  parents = R.standing.parents;
  marks = R.standing.marks;
  within = parent_le (plan_in plan.sheet) (checked_fine (plan_in plan.sheet) R.fine).parents;
}

module _ (p : Plan) (r : Ran) where
  pub results_stop : (f g : ℕ → Shown) (a : Result Unit ClockError) (k : ClockError) → ended f a ≡ shown_below p r p.activities → a ≡ Err k → ended g (Err k) ≡ results p r
  unfolding results
  results_stop f g a k e d = ap (λ (x : Pass (ℕ → Shown)). after x (through (rolled p r) (deepest_first p r p.activities))) (ap (ended f) (sym d) ∙ e)

  pub results_on : (f g : ℕ → Shown) (a b : Result Unit ClockError) → ended f a ≡ shown_below p r p.activities → a ≡ (Ok tt) → ended g b ≡ through (rolled p r) (deepest_first p r p.activities) f → ended g b ≡ results p r
  unfolding results
  results_on f g a b e d h = h ∙ ap (λ (x : Pass (ℕ → Shown)). after x (through (rolled p r) (deepest_first p r p.activities))) (ap (ended f) (sym d) ∙ e)
