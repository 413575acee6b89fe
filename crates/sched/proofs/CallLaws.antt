-- The outcome by the ways of the code: what is left at each of its ends is what the definition says.
use Rattle.std.specs.Prelude.{◌≡◌, Bool, true, false, ◌&&◌, Result, Ok, Err, List, [], ◌++◌, ◌≢◌, ℕ, ◌+◌, ◌-◌, ◌*◌, ◌≤◌, max, eqb, leb, ℤ, pos, drop, replicate}
use Rattle.std.proofs.Math.Path.{refl, sym, ap}
use Rattle.std.proofs.Common.{◌∙◌, eq-eqb, ne_eqb, leb-true, length-append}
use native.Mathlib.Omega.{arith}
use Rattle.std.proofs.Math.ListN.{length}
use Rattle.std.proofs.lemmas.List.{length-replicate}
use Rattle.number.specs.Tests.{and_both}
use Rattle.worktime.specs.Reads.{on_true, on_false}
use Rattle.sheet.specs.declared.Contents.{Contents}
use Rattle.judges.specs.declared.SheetError.{SheetError}
use Rattle.sheet.specs.Reading.{read_sheet}
use Rattle.order.specs.Plan.{Plan, plan_of}
use Rattle.order.specs.Ties.{ignored_links, open_ends}
use Rattle.order.specs.TieLaws.{ignored_le}
use Rattle.order.specs.Checks.{checked}
use Rattle.order.specs.declared.PlanError.{PlanError}
use Rattle.order.specs.Refusals.{plan_number, plan_id}
use Rattle.order.specs.RefusalLaws.{number_some}
use Rattle.worktime.specs.declared.ClockError.{ClockError}
use Rattle.worktime.specs.Number.{clock_number}
use Rattle.passes.specs.Dates.{leaves, refused}
use Rattle.passes.specs.Run.{Ran, run}
use Rattle.results.specs.declared.Shown.{Shown}
use Rattle.results.specs.Results.{results, finish_day}
use Rattle.results.specs.Rows.{signed_day_of, rows_below}
use Rattle.checks.specs.declared.PlanCounts.{PlanCounts}
use Rattle.checks.specs.Stages.{Counted}
use Rattle.checks.specs.Names.{then_zeros}
use Rattle.sched.specs.declared.Accepted as declared
use Rattle.sched.specs.declared.Refusal.{Refusal}
use Rattle.sched.specs.declared.Refusal.TheVariants.{NoRoom, Sheet, Plan as OfPlan, Clock}
use Rattle.sched.specs.Answers.{Answer, Accepted}
use Rattle.sched.specs.Outcome.{Lent, refused_with, untouched, accepted, shown_with, ran_with, planned, room_for, read_with, outcome}
use Rattle.sched.specs.CallLaws.{left_with, ended_with, zeros, LentAs, AcceptedAs}

-- ---- room
module _ (a l results names work : ℕ) where
  abbrev enough : Bool
  enough = leb (15 * a) results

  abbrev named : Bool
  named = leb (max (a + 1) l) names

  abbrev fits : Bool
  fits = leb (64 * a + 16 * l) work

  abbrev pub room : Bool
  room = leb (15 * a) results && leb (max (a + 1) l) names && leb (64 * a + 16 * l) work

  pub room_has : room ≡ true → (15 * a ≤ results) × (max (a + 1) l ≤ names) × (64 * a + 16 * l ≤ work)
  room_has e =
      let h = and_both (enough && named) fits e in
      let k = and_both enough named h.0 in
      (leb-true (15 * a) results k.0, leb-true (max (a + 1) l) names k.1, leb-true (64 * a + 16 * l) work h.1)

-- ---- names
pub zeros_alone : (names : List ℕ) → then_zeros [] names ≡ replicate (length names) 0
zeros_alone names = let e : length names - 0 ≡ length names = omega arith in rw e

pub then_length : (xs names : List ℕ) → length xs ≤ length names → length (then_zeros xs names) ≡ length names
then_length xs names h =
    omega (arith, length-append xs (replicate (length names - length xs) 0), length-replicate {A = ℕ} (length names - length xs) 0)

-- only the length of what was lent counts
pub then_same : (xs names other : List ℕ) → length names ≡ length other → then_zeros xs names ≡ then_zeros xs other
then_same xs names other e = rw e

-- ---- the ways of a plan that was read and has room
module _ (m : Lent) (p : Plan) where
  pub refused_is : (number id : ℕ) (loop names : List ℕ) (work : List ℤ) → names ≡ then_zeros loop m.names → work ≡ zeros m.work
      → left_with (Answer.Refused number id) m.results names work ≡ refused_with m number id loop
  unfolding refused_with
  refused_is number id loop names work e f = rw (e, f)

  -- rows 5 to 15
  pub planned_checked : (x : PlanError) (names : List ℕ) (work : List ℤ) → plan_number x ≡ (checked p).number → plan_id x ≡ (checked p).id
      → names ≡ then_zeros (checked p).loop m.names → work ≡ zeros m.work → ended_with (Err (OfPlan x)) m.results names work ≡ planned m p
  unfolding planned
  planned_checked x names work d e f g =
      let n : (checked p).number ≢ 0 = λ z. omega (arith, z, d, number_some x) in
      ap (λ (k : ℕ). left_with (Answer.Refused k (plan_id x)) m.results names work) d
      ∙ ap (λ (k : ℕ). left_with (Answer.Refused (checked p).number k) m.results names work) e
      ∙ refused_is (checked p).number (checked p).id (checked p).loop names work f g
      ∙ sym (on_false (eqb (checked p).number 0) _ _ (ne_eqb (checked p).number 0 n))

  module _ (fine : (checked p).number ≡ 0) where
    planned_run : planned m p ≡ ran_with m p (run p)
    unfolding planned
    planned_run = on_true (eqb (checked p).number 0) _ _ (eq-eqb (checked p).number 0 fine)

    cleared : (k : ℕ) (names : List ℕ) (work : List ℤ) → names ≡ replicate (length m.names) 0 → work ≡ zeros m.work
        → left_with (Answer.Refused k 0) m.results names work ≡ refused_with m k 0 []
    cleared k names work e f = refused_is k 0 [] names work (e ∙ sym (zeros_alone m.names)) f

    -- a walk of the passes is refused
    pub planned_passes : (k : ClockError) (names : List ℕ) (work : List ℤ) → run p ≡ refused k → names ≡ replicate (length m.names) 0 → work ≡ zeros m.work
        → left_with (Answer.Refused (clock_number k) 0) m.results names work ≡ planned m p
    planned_passes k names work r e f = cleared (clock_number k) names work e f ∙ sym (ap (ran_with m p) r) ∙ sym planned_run

    module _ (ran : Ran) (runs : run p ≡ leaves ran) where
      -- a walk of the results is refused
      pub planned_results : (k : ClockError) (names : List ℕ) (work : List ℤ) → results p ran ≡ refused k → names ≡ replicate (length m.names) 0 → work ≡ zeros m.work
          → left_with (Answer.Refused (clock_number k) 0) m.results names work ≡ planned m p
      planned_results k names work r e f =
          cleared (clock_number k) names work e f ∙ sym (ap (shown_with m p ran) r) ∙ sym (ap (ran_with m p) runs) ∙ sym planned_run

      -- nothing is refused
      pub planned_accepted : (f : ℕ → Shown) → results p ran ≡ leaves f → (day : ℤ) (a n o : ℕ) (rows : List ℤ) (names : List ℕ) (work : List ℤ)
          → day ≡ signed_day_of (finish_day p ran f p.activities) → a ≡ p.activities → n ≡ length (ignored_links p) → o ≡ open_ends p
          → rows ≡ rows_below p ran f p.activities ++ drop (15 * p.activities) m.results → names ≡ then_zeros (ignored_links p) m.names → work ≡ zeros m.work
          → left_with (Accepted day a n o) rows names work ≡ planned m p
      unfolding accepted
      planned_accepted f r day a n o rows names work e1 e2 e3 e4 e5 e6 e7 =
          rw (e1, e2, e3, e4, e5, e6, e7) (sym (ap (shown_with m p ran) r)) ∙ sym (ap (ran_with m p) runs) ∙ sym planned_run

-- ---- the ways of a sheet
module _ (s : List ℕ) (m : Lent) where
  pub unread_is : (x : SheetError) → read_sheet s ≡ Err x → ended_with (Err (Sheet x)) m.results m.names m.work ≡ outcome s m
  unfolding outcome
  unread_is x e = sym (ap (read_with s m) e)

  module _ (c : Contents) (read : read_sheet s ≡ Ok c) where
    pub short_is : room_for m c ≡ false → ended_with (Err NoRoom) m.results m.names m.work ≡ outcome s m
    unfolding outcome
    short_is e = sym (on_false (room_for m c) (planned m (plan_of s c)) (untouched m 1) e) ∙ sym (ap (read_with s m) read)

    pub planned_is : room_for m c ≡ true → planned m (plan_of s c) ≡ outcome s m
    unfolding outcome
    planned_is e = sym (on_true (room_for m c) (planned m (plan_of s c)) (untouched m 1) e) ∙ sym (ap (read_with s m) read)

-- ---- the ways after the checks: what was lent to the call is m
module _ (m : Lent) (p : Plan) {results₀ : List ℤ} {names₀ : List ℕ} {work₀ : List ℤ} (L : LentAs m p results₀ names₀ work₀) (fine : (checked p).number ≡ 0) where
  cleared_names : (names : List ℕ) → names ≡ replicate (length names₀) 0 → names ≡ replicate (length m.names) 0
  cleared_names names e = e ∙ ap (λ (k : ℕ). replicate k 0) L.names_length

  cleared_work : (work₁ work : List ℤ) → length work₁ ≡ length work₀ → work ≡ zeros work₁ → work ≡ zeros m.work
  cleared_work work₁ work k e = e ∙ ap (λ (k : ℕ). replicate k (pos 0)) (k ∙ L.work_length)

  answered_as : (r r' : Result declared.Accepted Refusal) (names : List ℕ) (work : List ℤ) → r ≡ r' → ended_with r results₀ names work ≡ ended_with r' m.results names work
  answered_as r r' names work e = λ z. ended_with (e z) (L.results_is z) names work

  -- a walk of the passes is refused; work₁ is what the passes leave
  pub run_refuses : (r : Result declared.Accepted Refusal) (k : ClockError) (names : List ℕ) (work₁ work : List ℤ) → run p ≡ refused k → r ≡ Err (Clock k) → names ≡ replicate (length names₀) 0
      → length work₁ ≡ length work₀ → work ≡ zeros work₁ → ended_with r results₀ names work ≡ planned m p
  run_refuses r k names work₁ work q e f g h =
      answered_as r (Err (Clock k)) names work e ∙ planned_passes m p fine k names work q (cleared_names names f) (cleared_work work₁ work g h)

  module _ (ran : Ran) (runs : run p ≡ leaves ran) where
    -- a walk of the results is refused
    pub show_refuses : (r : Result declared.Accepted Refusal) (k : ClockError) (names : List ℕ) (work₁ work : List ℤ) → results p ran ≡ refused k → r ≡ Err (Clock k) → names ≡ replicate (length names₀) 0
        → length work₁ ≡ length work₀ → work ≡ zeros work₁ → ended_with r results₀ names work ≡ planned m p
    show_refuses r k names work₁ work q e f g h =
        answered_as r (Err (Clock k)) names work e ∙ planned_results m p fine ran runs k names work q (cleared_names names f) (cleared_work work₁ work g h)

    -- nothing is refused
    pub show_accepts : (f : ℕ → Shown) → results p ran ≡ leaves f → {c : PlanCounts} {rows : List ℤ} {a : declared.Accepted} → AcceptedAs p ran f c results₀ rows a → Counted p c
        → (work₁ work : List ℤ) → length work₁ ≡ length work₀ → work ≡ zeros work₁ → ended_with (Ok a) rows names₀ work ≡ planned m p
    show_accepts f q {rows = rows} {a = a} A C work₁ work g h =
        planned_accepted m p fine ran runs f q a.finish_day a.activities a.ignored a.open_ends rows names₀ work A.day_is A.activities_is (A.ignored_is ∙ C.ignored) (A.ends_is ∙ C.ends)
        (A.rows_is ∙ ap (λ (xs : List ℤ). rows_below p ran f p.activities ++ drop (15 * p.activities) xs) L.results_is) L.names_is (cleared_work work₁ work g h)

-- ---- a plan of the sheet: its counts are the contents'
module _ (s : List ℕ) (c : Contents) where
  pub accepted_as : {ran : Ran} {f : ℕ → Shown} {k : PlanCounts} {results rows : List ℤ} (day : ℤ) → day ≡ signed_day_of (finish_day (plan_of s c) ran f c.activities)
      → rows ≡ rows_below (plan_of s c) ran f c.activities ++ drop (15 * c.activities) results
      → AcceptedAs (plan_of s c) ran f k results rows (record { finish_day = day; activities = c.activities; ignored = k.ignored; open_ends = k.open_ends })
  unfolding plan_of
  accepted_as day e h = record { day_is = e; activities_is = refl; ignored_is = refl; ends_is = refl; rows_is = h }

  -- the ignored links fit into the names
  pub names_kept : (names after : List ℕ) → max (c.activities + 1) c.links ≤ length names → after ≡ then_zeros (ignored_links (plan_of s c)) names → length after ≡ length names
  unfolding plan_of
  names_kept names after l e =
      ap length e ∙ then_length (ignored_links (plan_of s c)) names (omega (arith, ignored_le (plan_of s c) c.links))

  pub room_for_lem : (m : Lent) → room c.activities c.links (length m.results) (length m.names) (length m.work) ≡ room_for m c
  unfolding room_for
  room_for_lem m = refl
