-- What is shown of an activity is what its parts give.
use Rattle.std.specs.Prelude.{◌≡◌, refl, Bool, ◌&&◌, not, Result, Ok, Err}
use Rattle.worktime.specs.declared.ClockError.{ClockError}
use Rattle.worktime.specs.declared.ClockError.TheVariants.{TooLong}
use Rattle.std.proofs.Math.Path.{sym}
use Rattle.std.proofs.Common.{ap, ◌∙◌, arith}
use Rattle.std.proofs.Math.Bool.{true, false}
use Prim.Native.Nat.{ℕ, zero, suc, ◌-◌, ◌/◌, ◌^◌, ◌<◌}
use Rattle.std.proofs.Math.IntN.{ℤ}
use Rattle.number.specs.Tests.{and_both}
use Rattle.date.specs.Years.{in_years, years_in}
use Rattle.worktime.specs.Walks.{reads, between}
use Rattle.project.specs.declared.ActivityKind.{ActivityKind}
use Rattle.project.specs.declared.ActivityKind.TheVariants.{Task, StartMilestone, FinishMilestone}
use Rattle.project.specs.declared.FloatKind.{FloatKind}
use Rattle.project.specs.declared.CriticalBy.{CriticalBy}
use Rattle.project.specs.declared.CriticalBy.TheVariants.{TotalFloat, LongestPath}
use Rattle.project.specs.declared.Project.{Project}
use Rattle.placing.specs.declared.Actual.{Actual}
use Rattle.order.specs.Plan.{Plan}
use Rattle.passes.specs.Plan.{own, kind_of, recorded, begun}
use Rattle.passes.specs.Dates.{Pass, leaves, refused}
use Rattle.passes.specs.Floats.{measured, critical_by, day_of, is_completed, float_by}
use Rattle.passes.specs.Run.{Ran}
use Rattle.results.specs.declared.Shown.{Shown}
use Rattle.results.specs.declared.Times.{Times}
use Rattle.results.specs.declared.Days.{Days}
use Rattle.results.specs.Results.{start_minute, finish_minute, total_by, total_of, shown_day, shown}
use Rattle.results.specs.View.{times_of}
use Rattle.results.specs.Showing.{all_in_years, readable, critical_in, total_work, days_of, critical_of, shown_of, shown_by, shown_from}

-- two counts of worked minutes, joined
measured_two : (x y : Result ℤ ClockError) (h : ℤ → ℤ → ℤ) (go : ℤ → Pass Shown)
    → measured refused (measured Err x (λ a. measured Err y (λ b. Ok (h a b)))) go ≡ measured refused x (λ a. measured refused y (λ b. go (h a b)))
measured_two (Ok a) (Ok b) h go = refl
measured_two (Ok a) (Err k) h go = refl
measured_two (Err k) y h go = refl

-- four days in turn, or all at once
four_days : (ef es ls lf : ℕ) (go : ℕ → ℕ → ℕ → ℕ → Pass Shown)
    → readable (in_years (ef / 1440) && in_years (es / 1440) && in_years (ls / 1440) && in_years (lf / 1440)) (go (ef / 1440) (es / 1440) (ls / 1440) (lf / 1440))
    ≡ shown_day ef (λ a. shown_day es (λ b. shown_day ls (λ c. shown_day lf (λ d. go a b c d))))
unfolding reads
four_days ef es ls lf go = by (in_years (ef / 1440)) (in_years (es / 1440)) (in_years (ls / 1440)) (in_years (lf / 1440)) (go (ef / 1440) (es / 1440) (ls / 1440) (lf / 1440))
  where
    by : (a b c d : Bool) (x : Pass Shown)
        → ◌≡◌ {A = Pass Shown} (readable (a && b && c && d) x)
        (elim a [
          | true ↦ elim b [
            | true ↦ elim c [ true ↦ elim d [ true ↦ x | false ↦ refused TooLong ] | false ↦ refused TooLong ]
            | false ↦ refused TooLong
          ]
          | false ↦ refused TooLong
        ])
    by true true true true x = refl
    by true true true false x = refl
    by true true false d x = refl
    by true false c d x = refl
    by false b c d x = refl

pub critical_in_lem : (p : Plan) (i : ℕ) (by : CriticalBy) (total : ℤ) (path : Bool) → critical_by p i by total path ≡ critical_in by (day_of p i) total path
critical_in_lem p i (TotalFloat n) total path = refl
critical_in_lem p i LongestPath total path = refl

module _ (p : Plan) (r : Ran) (i : ℕ) where
  pub shown_is : shown_from p p.project (kind_of p i) (day_of p i) (own p i) (recorded p i) (times_of r i) ≡ shown p r i
  unfolding shown shown_from total_work total_of
  shown_is =
      let t : Times = times_of r i in
      let total : ℤ → ℤ → ℤ = λ a b. total_by (recorded p i) (float_by p p.project.float_kind a b) in
      let by : CriticalBy = p.project.critical_by in
      let go : ℤ → ℕ → ℕ → ℕ → ℕ → Pass Shown = λ z ef es ls lf. leaves (shown_of p (record { es = es; ef = ef; ls = ls; lf = lf }) z (not (is_completed p (recorded p i)) && critical_by p i by z t.path) t) in
      let d : Days = days_of p (kind_of p i) (recorded p i) t in
      measured_two (between (own p i) t.ef t.lf) (between (own p i) t.es t.ls) total (shown_by p p.project (kind_of p i) (day_of p i) (recorded p i) t)
      ∙ (λ x. measured refused (between (own p i) t.ef t.lf) (λ a. measured refused (between (own p i) t.es t.ls) (λ b.
      ((λ y. readable (all_in_years d) (leaves (shown_of p d (total a b) (not (is_completed p (recorded p i)) && sym (critical_in_lem p i by (total a b) t.path) y) t)))
      ∙ four_days (finish_minute (kind_of p i) t.left t.ef) (start_minute (kind_of p i) (begun p (recorded p i) t.es))
      (start_minute (kind_of p i) (begun p (recorded p i) t.ls)) (finish_minute (kind_of p i) t.left t.lf) (go (total a b))) x)))

-- ---- the ways of `finish_minute` and of the four days
module _ (kind : ActivityKind) (left t : ℕ) where
  pub finish_none : kind ≡ Task → left ≡ 0 → t ≡ finish_minute kind left t
  finish_none e z = rw (e, z)

  pub finish_some : kind ≡ Task → 0 < left → t - 1 ≡ finish_minute kind left t
  finish_some e z = rw e (some left z)
    where
      some : (m : ℕ) → 0 < m → t - 1 ≡ finish_minute Task m t
      some zero l = absurd (omega arith)
      some (suc m) l = refl

  pub finish_start : kind ≡ StartMilestone → t ≡ finish_minute kind left t
  finish_start e = rw e

  pub finish_finish : kind ≡ FinishMilestone → t - 1 ≡ finish_minute kind left t
  finish_finish e = rw e

module _ (d : Days) where
  pub in_four : in_years d.ef ≡ true → in_years d.es ≡ true → in_years d.ls ≡ true → in_years d.lf ≡ all_in_years d
  in_four a b c = rw (a, b, c)

  pub out_four : in_years d.ef ≡ true → in_years d.es ≡ true → in_years d.ls ≡ false → false ≡ all_in_years d
  out_four a b c = rw (a, b, c)

  pub out_three : in_years d.ef ≡ true → in_years d.es ≡ false → false ≡ all_in_years d
  out_three a b = rw (a, b)

  pub out_two : in_years d.ef ≡ false → false ≡ all_in_years d
  out_two a = rw a

-- ---- the ways of the total float
module _ (p : Plan) (w : ℕ → Bool) (kind : FloatKind) (a : Result Actual ClockError) (t : Times) where
  pub total_both : (f s : ℤ) → between w t.ef t.lf ≡ Ok f → between w t.es t.ls ≡ Ok s → Ok (total_by a (float_by p kind f s)) ≡ total_work p w kind a t
  unfolding total_work
  total_both f s d e = rw (d, e)

  pub total_finish : (k : ClockError) → between w t.ef t.lf ≡ Err k → Err k ≡ total_work p w kind a t
  unfolding total_work
  total_finish k d = rw d

  pub total_start : (f : ℤ) (k : ClockError) → between w t.ef t.lf ≡ Ok f → between w t.es t.ls ≡ Err k → Err k ≡ total_work p w kind a t
  unfolding total_work
  total_start f k d e = rw (d, e)

-- ---- the ways of what is shown
module _ (p : Plan) (project : Project) (kind : ActivityKind) (day_length : ℕ) (w : ℕ → Bool) (a : Result Actual ClockError) (t : Times) where
  pub shown_refused : (k : ClockError) → total_work p w project.float_kind a t ≡ Err k → refused k ≡ shown_from p project kind day_length w a t
  unfolding shown_from
  shown_refused k e = rw e

  pub shown_out : (z : ℤ) (d : Days) → total_work p w project.float_kind a t ≡ Ok z → d ≡ days_of p kind a t → all_in_years d ≡ false → refused TooLong ≡ shown_from p project kind day_length w a t
  unfolding shown_from
  shown_out z d e f g =
      let h : all_in_years (days_of p kind a t) ≡ false = rw f at g in
      rw e (sym (ap (λ (b : Bool). readable b (leaves (shown_of p (days_of p kind a t) z (critical_of p a project.critical_by day_length z t.path) t))) h))

  pub shown_in_lem : (z : ℤ) (d : Days) (critical : Bool) → total_work p w project.float_kind a t ≡ Ok z → d ≡ days_of p kind a t → all_in_years d ≡ true
      → critical ≡ critical_of p a project.critical_by day_length z t.path → leaves (shown_of p d z critical t) ≡ shown_from p project kind day_length w a t
  unfolding shown_from
  shown_in_lem z d critical e f g k =
      let h : all_in_years (days_of p kind a t) ≡ true = rw f at g in
      rw (e, f, k) (sym (ap (λ (b : Bool). readable b (leaves (shown_of p (days_of p kind a t) z (critical_of p a project.critical_by day_length z t.path) t))) h))

-- days that may be read are small
years_low : (d : ℕ) → in_years d ≡ true → d < 2 ^ 63
years_low d e = omega (arith, years_in d e)

pub days_low : (d : Days) → all_in_years d ≡ true → (d.es < 2 ^ 63) × (d.ef < 2 ^ 63) × (d.ls < 2 ^ 63) × (d.lf < 2 ^ 63)
days_low d e =
    let f = and_both (in_years d.ef && in_years d.es && in_years d.ls) (in_years d.lf) e in
    let g = and_both (in_years d.ef && in_years d.es) (in_years d.ls) f.0 in
    let h = and_both (in_years d.ef) (in_years d.es) g.0 in
    (years_low d.es h.1, years_low d.ef h.0, years_low d.ls g.1, years_low d.lf f.1)
