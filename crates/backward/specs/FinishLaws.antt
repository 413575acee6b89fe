-- The greatest early finish from the loop's number, and the end by the sheet.
use Rattle.std.proofs.Math.Path.{◌≡◌, refl, ap}
use Rattle.std.proofs.Common.{sym, ◌∙◌}
use Rattle.std.specs.Prelude.{Bool, ◌&&◌, List, Ok, Option, Some, None, unwrap_or, IfSome}
use Rattle.std.proofs.Math.Bool.{true, false}
use Prim.Native.Nat.{ℕ, zero, suc, ◌+◌, ◌-◌, ◌<◌, max}
use native.Mathlib.Omega.{arith}
use Rattle.std.proofs.Math.Numerals.{add-one}
use Rattle.worktime.specs.Reads.{on_true, on_false}
use Rattle.date.specs.declared.Date.{Date}
use Rattle.project.specs.Records.{optional_date_at, project_at}
use Rattle.placing.specs.Placing.{bounded, midnight_of}
use Rattle.sheet.specs.declared.Contents.{Contents}
use Rattle.order.specs.Plan.{Plan, plan_of}
use Rattle.order.specs.Ids.{summary}
use Rattle.passes.specs.Plan.{origin}
use Rattle.passes.specs.Dates.{Early}
use Rattle.passes.specs.Backward.{greatest_below, all_summaries, finish, end_by, end}
use Rattle.memory.specs.State.{State}
use Rattle.memory.specs.Fields.{early_start, early_finish}
use Rattle.dates.specs.Columns.{early_in}
use Rattle.dates.specs.ColumnLaws.{column_at}
use Rattle.bounds.specs.ReadyLaws.{activities_are}
use Rattle.backward.specs.Finish.{past, onward, greatest_one}

-- ---- the early dates of one activity
module _ (s : List ℕ) (c : Contents) (S : State) (i : ℕ) (b : i < c.activities) where
  within : i < (plan_of s c).activities
  within = omega (arith, activities_are s c)

  pub start_at : (early_in (plan_of s c) S).es i ≡ S.act early_start i
  start_at = column_at (plan_of s c).activities (λ j. origin (plan_of s c)) early_start S i within

  pub finish_at : (early_in (plan_of s c) S).ef i ≡ S.act early_finish i
  finish_at = column_at (plan_of s c).activities (λ j. origin (plan_of s c)) early_finish S i within

-- ---- on with one activity
pub onward_summary : (b : Bool) (ef top : ℕ) → b ≡ true → onward b ef top ≡ top
onward_summary b ef top e = rw e

pub onward_met : (b : Bool) (ef top : ℕ) → b ≡ false → onward b ef top ≡ max top (ef + 1)
onward_met b ef top e = rw e

pub past_more : (top : Option ℕ) (ef : ℕ) → past (Some (max (unwrap_or top ef) ef)) ≡ max (past top) (ef + 1)
past_more None ef = omega arith
past_more (Some t) ef = omega arith

pub below_more : (top : Option ℕ) (ef m : ℕ) → IfSome top (λ t. t < m) → ef < m → max (unwrap_or top ef) ef < m
below_more None ef m h l = omega arith
below_more (Some t) ef m h l = omega arith

module _ (p : Plan) (d : Early) where
  pub one_none : 0 ≡ greatest_one p d 0
  unfolding greatest_one
  one_none = refl

  pub one_more : (n top r : ℕ) → top ≡ greatest_one p d n → r ≡ onward (summary p n) (d.ef n) top → r ≡ greatest_one p d (n + 1)
  unfolding greatest_one
  one_more n top r e f = rw add-one (f ∙ ap (onward (summary p n) (d.ef n)) e)

  -- the loop's number is 0 where all are summaries, and else one more than the greatest
  record Says (n g : ℕ) : Type 0 where
    none : all_summaries p n ≡ true → g ≡ 0
    some : all_summaries p n ≡ false → g ≡ greatest_below p d n + 1
    under : all_summaries p n ≡ true → greatest_below p d n ≡ 0

  says_next : (b : Bool) (n g : ℕ) → summary p n ≡ b → Says n g → Says (suc n) (onward b (d.ef n) g)
  unfolding all_summaries greatest_below
  says_next true n g e s =
      let a : all_summaries p (suc n) ≡ all_summaries p n = ap (λ (x : Bool). x && all_summaries p n) e in
      let h : greatest_below p d (suc n) ≡ greatest_below p d n = on_true (summary p n) (greatest_below p d n) (max (greatest_below p d n) (d.ef n)) e in record {
        none = λ q. s.none (sym a ∙ q);
        some = λ q. s.some (sym a ∙ q) ∙ ap (λ (x : ℕ). x + 1) (sym h);
        under = λ q. h ∙ s.under (sym a ∙ q);
      }
  says_next false n g e s =
      let a : all_summaries p (suc n) ≡ false = ap (λ (x : Bool). x && all_summaries p n) e in
      let h : greatest_below p d (suc n) ≡ max (greatest_below p d n) (d.ef n) = on_false (summary p n) (greatest_below p d n) (max (greatest_below p d n) (d.ef n)) e in record {
        none = λ q. absurd (clash (sym q ∙ a));
        some = λ q. either (all_summaries p n) refl h;
        under = λ q. absurd (clash (sym q ∙ a));
      }
    where
      clash : true ≡ false → ⊥
      clash c = let z : ◌≡◌ {A = ℕ} 0 1 = cc in omega arith

      either : (b : Bool) → all_summaries p n ≡ b → greatest_below p d (suc n) ≡ max (greatest_below p d n) (d.ef n)
          → max g (d.ef n + 1) ≡ greatest_below p d (suc n) + 1
      either true q h = omega (arith, h, s.none q, s.under q)
      either false q h = omega (arith, h, s.some q)

  says : (n : ℕ) → Says n (greatest_one p d n)
  unfolding greatest_one all_summaries greatest_below
  says zero = record { none = λ q. refl; some = λ q. let z : ◌≡◌ {A = ℕ} 0 1 = cc in absurd (omega arith); under = λ q. refl }
  says (suc n) = says_next (summary p n) n (greatest_one p d n) refl (says n)

  finish_by_lem : (b : Bool) → all_summaries p p.activities ≡ b → finish p d ≡ elim b [ true ↦ origin p | false ↦ greatest_below p d p.activities ]
  unfolding finish
  finish_by_lem b e = rw (e, finish)

  -- the greatest finish, from the number of all activities
  pub finish_none : (g o : ℕ) → g ≡ greatest_one p d p.activities → g ≡ 0 → o ≡ origin p → o ≡ finish p d
  finish_none g o e z q = by (all_summaries p p.activities) refl
    where
      by : (b : Bool) → all_summaries p p.activities ≡ b → o ≡ finish p d
      by true a = q ∙ sym (finish_by_lem true a)
      by false a = absurd (omega (arith, e, (says p.activities).some a))

  pub finish_some : (g : ℕ) → g ≡ greatest_one p d p.activities → 0 < g → g - 1 ≡ finish p d
  finish_some g e z = by (all_summaries p p.activities) refl
    where
      by : (b : Bool) → all_summaries p p.activities ≡ b → g - 1 ≡ finish p d
      by true a = absurd (omega (arith, e, (says p.activities).none a))
      by false a = let m : g - 1 ≡ greatest_below p d p.activities = omega (arith, e, (says p.activities).some a) in m ∙ sym (finish_by_lem false a)

  pub finish_top : (top : Option ℕ) (o m : ℕ) → past top ≡ greatest_one p d p.activities → IfSome top (λ t. t < m) → o ≡ origin p → o < m
      → (unwrap_or top o ≡ finish p d) × (unwrap_or top o < m)
  finish_top None o m e h q l = (finish_none 0 o e refl q, l)
  finish_top (Some t) o m e h q l = (omega (arith, finish_some (t + 1) e (omega arith)), h)

-- ---- the end, by the must-finish day of the sheet
module _ (s : List ℕ) (c : Contents) (d : Early) where
  end_is : (x : Option Date) → optional_date_at s 9 ≡ x → end (plan_of s c) d ≡ end_by (plan_of s c) d x
  unfolding end plan_of project_at
  end_is x e = ap (end_by (plan_of s c) d) e

  pub end_on : (x : Date) (o m : ℕ) → optional_date_at s 9 ≡ Some x → o ≡ origin (plan_of s c) → m ≡ midnight_of x → end (plan_of s c) d ≡ bounded o (m + 1440)
  end_on x o m e q r = end_is (Some x) e ∙ (λ z. bounded (sym q z) (sym r z + 1440))

  pub end_absent : (g : ℕ) → optional_date_at s 9 ≡ None → g ≡ finish (plan_of s c) d → end (plan_of s c) d ≡ Ok g
  end_absent g e q = end_is None e ∙ ap Ok (sym q)
