-- Demand 3 about the call's own answers: loops are refused exactly where kept links close one, and named; the early starts shown are the earliest.
use Rattle.std.specs.Prelude.{◌≡◌, true, false, Ok, List, ◌++◌, ◌≢◌, ◌↔◌, ℕ, ◌+◌, ◌*◌, ◌<◌, eqb, ℤ, pos, length, get_or, drop}
use Rattle.std.proofs.Math.Path.{refl, ap}
use Rattle.std.proofs.Common.{sym, ◌∙◌, arith, eq-eqb, ne_eqb}
use Rattle.std.proofs.Math.Logic.{⊎_elim}
use Rattle.std.specs.Int.Signed.{le_z}
use Rattle.number.specs.Order.{eq_or_ne}
use Rattle.number.specs.Bytes.{byte_at}
use Rattle.worktime.specs.Reads.{on_true, on_false}
use Rattle.date.specs.Days.{signed_minute}
use Rattle.sheet.specs.declared.Contents.{Contents}
use Rattle.sheet.specs.Reading.{read_sheet}
use Rattle.sheet.specs.Known.{SheetRead}
use Rattle.sheet.specs.ReadLaws.{read_known}
use Rattle.order.specs.Plan.{Plan, plan_of}
use Rattle.order.specs.Ids.{summary}
use Rattle.order.specs.Checks.{checked, before_ordering}
use Rattle.order.specs.Demand.{LoopOfIds, KeptLinksCloseLoop}
use Rattle.order.proofs.LoopLaws.{loop_iff, loop_named, loop_each}
use Rattle.passes.specs.Dates.{Pass, leaves, refused}
use Rattle.passes.specs.Run.{Ran, run}
use Rattle.results.specs.declared.Shown.{Shown}
use Rattle.results.specs.Results.{results}
use Rattle.results.specs.Rows.{rows_below}
use Rattle.timetable.specs.Rules.{Obeys}
use Rattle.timetable.specs.Fit.{Fit}
use Rattle.timetable.proofs.Demand.{run_obeys, run_first}
use Rattle.timetable.proofs.SheetPlan.{sheet_momentary, sheet_activities}
use Rattle.checks.specs.Names.{then_zeros}
use Rattle.sched.specs.Outcome.{Lent, Ended, refused_with, untouched, accepted, shown_with, ran_with, planned, room_for, outcome}
use Rattle.demands.specs.RunRefusals.{PassEight, run_eight, results_eight}
use Rattle.demands.specs.RowLaws.{start_shown}
use Rattle.demands.specs.Demand.{number_of, starts_in}

module _ (m : Lent) (p : Plan) where
  shown_number : (r : Ran) (x : Pass (ℕ → Shown)) → PassEight x → (number_of (shown_with m p r x).answer ≢ 15)
  unfolding refused_with accepted
  shown_number r (leaves f) h e = absurd (omega (arith, e))
  shown_number r (refused k) h e = absurd (omega (arith, e, h.is))

  ran_number : (x : Pass Ran) → PassEight x → (number_of (ran_with m p x).answer ≢ 15)
  unfolding refused_with
  ran_number (leaves r) h e = shown_number r (results p r) (results_eight p r) e
  ran_number (refused k) h e = absurd (omega (arith, e, h.is))

  planned_run : (checked p).number ≡ 0 → planned m p ≡ ran_with m p (run p)
  unfolding planned
  planned_run e = on_true (eqb (checked p).number 0) _ _ (eq-eqb (checked p).number 0 e)

  planned_refused : (checked p).number ≢ 0 → planned m p ≡ refused_with m (checked p).number (checked p).id (checked p).loop
  unfolding planned
  planned_refused n = on_false (eqb (checked p).number 0) _ _ (ne_eqb (checked p).number 0 n)

  -- the call's number is 15 where the checks' is
  planned_fifteen : (number_of (planned m p).answer ≡ 15) ↔ ((checked p).number ≡ 15)
  unfolding refused_with
  planned_fifteen = (
    λ e.
        ⊎_elim (λ z. absurd (ran_number (run p) (run_eight p) (ap (λ (x : Ended). number_of x.answer) (sym (planned_run z)) ∙ e)))
        (λ n. ap (λ (x : Ended). number_of x.answer) (sym (planned_refused n)) ∙ e) (eq_or_ne (checked p).number 0),
    λ e. ap (λ (x : Ended). number_of x.answer) (planned_refused (λ z. omega arith)) ∙ e,
  )

  -- where the call accepts, the checks are fine, the passes ran and the results were made
  pub record AcceptedRun (x : Ended) : Type 0 where
    pub fine : (checked p).number ≡ 0
    pub ran : Ran
    pub shown : ℕ → Shown
    pub runs : run p ≡ leaves ran
    pub is : x.lent.results ≡ rows_below p ran shown p.activities ++ drop (15 * p.activities) m.results

  shown_accepted : (r : Ran) (x : Pass (ℕ → Shown)) → PassEight x → number_of (shown_with m p r x).answer ≡ 0 → (checked p).number ≡ 0 → run p ≡ leaves r
      → AcceptedRun (shown_with m p r x)
  unfolding refused_with accepted
  shown_accepted r (leaves f) h e z q = record { fine = z; ran = r; shown = f; runs = q; is = refl }
  shown_accepted r (refused k) h e z q = absurd (omega (arith, e, h.is))

  ran_accepted : (x : Pass Ran) → PassEight x → run p ≡ x → number_of (ran_with m p x).answer ≡ 0 → (checked p).number ≡ 0 → AcceptedRun (ran_with m p x)
  unfolding refused_with
  ran_accepted (leaves r) h q e z = shown_accepted r (results p r) (results_eight p r) e z q
  ran_accepted (refused k) h q e z = absurd (omega (arith, e, h.is))

  planned_accepted : number_of (planned m p).answer ≡ 0 → AcceptedRun (planned m p)
  unfolding refused_with
  planned_accepted e =
      ⊎_elim
      (λ z.
      rw (planned_run z) (ran_accepted (run p) (run_eight p) refl (ap (λ (x : Ended). number_of x.answer) (sym (planned_run z)) ∙ e) z))
      (λ n. absurd (n (ap (λ (x : Ended). number_of x.answer) (sym (planned_refused n)) ∙ e))) (eq_or_ne (checked p).number 0)

module _ (s : List ℕ) (bytes : (i : ℕ) → byte_at s i < 256) (m : Lent) (c : Contents) (read : read_sheet s ≡ Ok c) (room : room_for m c ≡ true) where
  pub outcome_planned : outcome s m ≡ planned m (plan_of s c)
  unfolding outcome
  outcome_planned = rw read (on_true (room_for m c) (planned m (plan_of s c)) (untouched m 1) room)

  known : SheetRead s c
  known = read_known s c read

  -- ---- "Whatever plan passes the checks before ordering, it is refused as a loop exactly when its kept links close one"
  pub loop_refused : (before_ordering (plan_of s c)).number ≡ 0 → (number_of (outcome s m).answer ≡ 15) ↔ KeptLinksCloseLoop (plan_of s c)
  loop_refused passes = (
    λ e. (loop_iff (plan_of s c) passes).0 ((planned_fifteen m (plan_of s c)).0 (ap (λ (x : Ended). number_of x.answer) (sym outcome_planned) ∙ e)),
    λ w. ap (λ (x : Ended). number_of x.answer) outcome_planned ∙ (planned_fifteen m (plan_of s c)).1 ((loop_iff (plan_of s c) passes).1 w),
  )

  -- "and the ids given name such a loop": names holds them, none of them 0, and then zeros
  pub record NamesLoop : Type 0 where
    pub ids : List ℕ
    pub names : (outcome s m).lent.names ≡ then_zeros ids m.names
    pub loop : LoopOfIds (plan_of s c) ids
    pub some : (q : ℕ) → q < length ids → get_or ids q 0 ≢ 0

  pub loop_names : number_of (outcome s m).answer ≡ 15 → NamesLoop
  unfolding refused_with plan_of
  loop_names e =
      let p : Plan = plan_of s c in
      let n : (checked p).number ≡ 15 = (planned_fifteen m p).0 (ap (λ (x : Ended). number_of x.answer) (sym outcome_planned) ∙ e) in record {
        ids = (checked p).loop;
        names = ap (λ (x : Ended). x.lent.names) (outcome_planned ∙ planned_refused m p (λ z. omega arith));
        loop = loop_named p n;
        some = loop_each p n (λ id. id ≢ 0) (λ i l. (sheet_activities s bytes c known i l).named);
      }

  -- ---- "the early starts obey 01's timetable rules and are the least that do, to the minute"
  module _ (yes : number_of (outcome s m).answer ≡ 0) (fit : Fit (plan_of s c)) where
    made : AcceptedRun m (plan_of s c) (outcome s m)
    made =
        rw outcome_planned (planned_accepted m (plan_of s c) (ap (λ (x : Ended). number_of x.answer) (sym outcome_planned) ∙ yes))

    start_is : (i : ℕ) → i < (plan_of s c).activities → summary (plan_of s c) i ≡ false → starts_in (outcome s m) i ≡ signed_minute (made.ran.early.es i)
    start_is i l z =
        let p : Plan = plan_of s c in
        ap (λ (xs : List ℤ). get_or xs (15 * i + 13) (pos 0)) made.is
        ∙ start_shown p made.ran made.shown (drop (15 * p.activities) m.results) p.activities i l z

    pub accepted_obeys : Obeys (plan_of s c) (starts_in (outcome s m))
    accepted_obeys =
        let o = run_obeys (plan_of s c) made.fine fit made.ran (sheet_momentary s bytes c known) made.runs in record {
          s = o.s;
          f = o.f;
          minutes = λ i l z. start_is i l z ∙ o.minutes i l z;
          obeyed = o.obeyed;
        }

    pub accepted_least : (start : ℕ → ℤ) → Obeys (plan_of s c) start → (i : ℕ) → i < (plan_of s c).activities → summary (plan_of s c) i ≡ false
        → le_z (starts_in (outcome s m) i) (start i) ≡ true
    accepted_least start o i l z =
        rw (start_is i l z) (run_first (plan_of s c) made.fine fit made.ran (sheet_momentary s bytes c known) made.runs start o i l z)
