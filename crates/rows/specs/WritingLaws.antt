-- A row that is written stands in its place, and the rows are the definition's.
use Rattle.std.specs.Prelude.{◌≡◌, Bool, ltb, ℤ, set, Result}
use Rattle.worktime.specs.declared.ClockError.{ClockError}
use Rattle.std.proofs.Math.Path.{refl, ap}
use Rattle.std.proofs.Common.{sym, ◌∙◌, add-one, length-append, length-drop}
use mathlib.Core.List.{List, [], ◌∷◌, ◌++◌}
use Prim.Native.Nat.{ℕ, zero, suc, ◌+◌, ◌*◌, ◌/◌, max, ◌≤◌, ◌<◌}
use native.Mathlib.Omega.{arith}
use Rattle.std.proofs.Math.ListN.{length, take, drop}
use Rattle.std.proofs.lemmas.List.{append_assoc}
use Rattle.std.proofs.lemmas.List.Edits.{sets, sets-eq}
use Rattle.std.proofs.Math.Seq.{length-sets, take_at, drop-append-add, drop-drop}
use Rattle.number.specs.Bit.{bit}
use Rattle.number.specs.BitLaws.{mark_flag}
use Rattle.memory.specs.State.{State}
use Rattle.memory.specs.declared.Tables.{Tables}
use Rattle.memory.specs.Seen.{state}
use Rattle.memory.specs.Fields.{early_start, early_finish, work_left}
use Rattle.order.specs.Plan.{Plan, plan_of, plan_in}
use Rattle.placing.specs.declared.Actual.{Actual}
use Rattle.order.specs.Ids.{id_of, summary}
use Rattle.passes.specs.Plan.{origin, recorded}
use Rattle.passes.specs.Floats.{day_of}
use Rattle.passes.specs.Run.{Ran}
use Rattle.calendars.specs.Calendars.{Lengths}
use Rattle.dates.specs.ColumnLaws.{column_at}
use Rattle.dates.specs.Standing.{Ready, Recorded}
use Rattle.dates.specs.FineLaws.{checked_fine}
use Rattle.results.specs.declared.Shown.{Shown}
use Rattle.results.specs.Results.{finish_day}
use Rattle.results.specs.Rows.{minute_of, row_of, rows_below}
use Rattle.results.specs.View.{ran_in, shown_in, shown_at}
use Rattle.results.specs.ViewLaws.{to_at_lem}
use Rattle.rows.specs.Writing.{stored_from, row_fields, row_with, row_in, rows_in, ToWrite}
use Rattle.calendars.specs.declared.plan_sheet.PlanSheet.{PlanSheet}

-- ---- what is lent
pub to_write : {plan : PlanSheet} {tables : Tables} → Ready plan tables → Lengths (plan_in plan.sheet) plan.calendars.now
    → Recorded (plan_in plan.sheet) (state tables) → ToWrite plan.sheet plan.calendars.now tables
unfolding plan_of
to_write {plan} R L D = record {
  activities = R.activities;
  links = R.links;
  days = L;
  named = λ i b. ((checked_fine (plan_in plan.sheet) R.fine).activities i b).calendar;
  marks = R.standing.marks;
  recorded = D;
}

-- ---- elements put one after the other
stored_sets : (zs xs : List ℤ) (at k : ℕ) → stored_from xs at k zs ≡ sets xs (at + k) zs
stored_sets [] xs at k = refl
stored_sets (z ∷ zs) xs at k = let e : at + suc k ≡ suc (at + k) = omega arith in stored_sets zs (set xs (at + k) z) at (suc k) ∙ ap (λ (n : ℕ). sets (set xs (at + k) z) n zs) e

pub stored_is : (zs xs : List ℤ) (at : ℕ) → at + length zs ≤ length xs → stored_from xs at 0 zs ≡ take at xs ++ zs ++ drop (at + length zs) xs
stored_is zs xs at l = let e : at + 0 ≡ at = omega arith in stored_sets zs xs at 0 ∙ ap (λ (n : ℕ). sets xs n zs) e ∙ sets-eq zs xs at l

pub stored_length : (zs xs : List ℤ) (at k : ℕ) → length (stored_from xs at k zs) ≡ length xs
stored_length zs xs at k = ap length (stored_sets zs xs at k) ∙ length-sets xs (at + k) zs

-- numbers copied over as many
pub copied_is : (zs xs : List ℤ) (at n : ℕ) → n ≡ length zs → at + n ≤ length xs → take at xs ++ (zs ++ drop n (drop at xs)) ≡ stored_from xs at 0 zs
copied_is zs xs at n e l =
    sym (append_assoc (take at xs) zs (drop n (drop at xs))) ∙ ap (λ (ys : List ℤ). take at xs ++ zs ++ ys) (drop-drop n at xs ∙ ap (λ (k : ℕ). drop (at + k) xs) e) ∙ sym (stored_is zs xs at (omega (arith, e, l)))

-- ---- the rows
pub row_length : (p : Plan) (S : State) (i : ℕ) → length (row_in p S i) ≡ 15
unfolding row_in
row_length p S i = refl

pub rows_length : (p : Plan) (S : State) (n : ℕ) → length (rows_in p S n) ≡ 15 * n
unfolding rows_in
rows_length p S zero = refl
rows_length p S (suc n) = length-append (rows_in p S n) (row_in p S n) ∙ omega (arith, rows_length p S n, row_length p S n)

pub rows_none : (p : Plan) (S : State) (xs : List ℤ) → xs ≡ rows_in p S 0 ++ drop (15 * 0) xs
unfolding rows_in
rows_none p S xs = refl

module _ (p : Plan) (S : State) (xs ys : List ℤ) (i : ℕ) (e : ys ≡ rows_in p S i ++ drop (15 * i) xs) (l : 15 * (i + 1) ≤ length xs) where
  pub rows_room : length ys ≡ length xs
  rows_room = ap length e ∙ length-append (rows_in p S i) (drop (15 * i) xs) ∙ omega (arith, rows_length p S i, length-drop (15 * i) xs)

  -- one row more
  pub rows_more : stored_from ys (15 * i) 0 (row_in p S i) ≡ rows_in p S (i + 1) ++ drop (15 * (i + 1)) xs
  unfolding rows_in
  rows_more =
      let before : take (15 * i) ys ≡ rows_in p S i = ap (take (15 * i)) e ∙ take_at (rows_in p S i) (drop (15 * i) xs) (15 * i) (rows_length p S i) in
      let n : 15 * i + length (row_in p S i) ≡ length (rows_in p S i) + 15 = omega (arith, rows_length p S i, row_length p S i) in
      let m : 15 * i + 15 ≡ 15 * (i + 1) = omega arith in
      let past : drop (15 * i + length (row_in p S i)) ys ≡ drop (15 * (i + 1)) xs =
      ap (λ (k : ℕ). drop k ys) n ∙ ap (drop (length (rows_in p S i) + 15)) e ∙ drop-append-add (rows_in p S i) (drop (15 * i) xs) 15 ∙ drop-drop 15 (15 * i) xs ∙ ap (λ (k : ℕ). drop k xs) m
      in
      let one : rows_in p S (i + 1) ≡ rows_in p S i ++ row_in p S i = ap (rows_in p S) (add-one i) in
      stored_is (row_in p S i) ys (15 * i) (omega (arith, rows_room, row_length p S i))
      ∙ (λ z. before z ++ row_in p S i ++ past z)
      ∙ ap (λ (zs : List ℤ). zs ++ drop (15 * (i + 1)) xs) (sym one)

-- ---- the definition's rows
module _ (p : Plan) (S : State) (e : ℕ) (other : ℕ → Bool) where
  row_same : (i : ℕ) → i < p.activities → row_in p S i ≡ row_of p (ran_in p S e other) (shown_in p S) i
  unfolding row_in row_of minute_of
  row_same i l =
      λ z. row_with p i (sym (to_at_lem p.activities S i l) z) (sym (column_at p.activities (λ i. 0) work_left S i l) z)
      (sym (column_at p.activities (λ i. origin p) early_start S i l) z) (sym (column_at p.activities (λ i. origin p) early_finish S i l) z)

  pub rows_same : (n : ℕ) → n ≤ p.activities → rows_in p S n ≡ rows_below p (ran_in p S e other) (shown_in p S) n
  unfolding rows_in rows_below
  rows_same zero l = refl
  rows_same (suc n) l = λ z. rows_same n (omega arith) z ++ row_same n (omega arith) z

-- ---- the finish day
module _ (p : Plan) (r : Ran) (S : State) where
  pub day_none : origin p / 1440 ≡ finish_day p r (shown_in p S) 0
  unfolding finish_day
  day_none = refl

  pub day_more : (n d : ℕ) → n < p.activities → d ≡ finish_day p r (shown_in p S) n → max d (shown_at S n).days.ef ≡ finish_day p r (shown_in p S) (n + 1)
  unfolding finish_day
  day_more n d l e = rw (add-one n, to_at_lem p.activities S n l, e)

-- ---- a row in hand
pub fields_are : (p : Plan) (S : State) (i id day_length : ℕ) (x : Shown) (b : Bool) (a : Result Actual ClockError) (m left es ef : ℕ)
    → id ≡ id_of p i → day_length ≡ day_of p i → x ≡ shown_at S i → b ≡ ltb 0 m → m ≡ bit (summary p i) → a ≡ recorded p i
    → left ≡ S.act work_left i → es ≡ S.act early_start i → ef ≡ S.act early_finish i → row_fields id day_length x b a left es ef ≡ row_in p S i
unfolding row_in
fields_are p S i id day_length x b a m left es ef d e f g h j k l n =
    λ z. row_fields (d z) (e z) (f z) ((g ∙ mark_flag (summary p i) h) z) (j z) (k z) (l z) (n z)
