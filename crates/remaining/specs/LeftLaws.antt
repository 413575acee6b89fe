-- One law for each way to what is recorded of an activity and to its work left, and how much that can be.
use Rattle.std.specs.Prelude.{◌≡◌, refl, Bool, true, false, ℕ, ◌-◌, ◌^◌, ◌<◌, max, ℤ, Result, Ok, Err, Option, Some, None}
use Rattle.worktime.specs.declared.ClockError.{ClockError}
use Rattle.std.proofs.Common.{sym, ◌∙◌, arith}
use Rattle.std.proofs.Math.Path.{ap}
use Rattle.number.specs.Zed.{up}
use Rattle.worktime.specs.Walks.{between}
use Rattle.worktime.specs.Reads.{on_true, on_false}
use Rattle.date.specs.declared.Date.{Date}
use Rattle.project.specs.declared.Status.TheVariants.{NotStarted}
use Rattle.project.specs.Status.{status_of}
use Rattle.placing.specs.declared.Actual.{Actual}
use Rattle.placing.specs.declared.Actual.TheVariants.{Unstarted, Begun, Completed}
use Rattle.placing.specs.Placing.{midnight_of, actual}
use Rattle.placing.proofs.PlacingSound.{clash}
use Rattle.order.specs.Plan.{Plan}
use Rattle.order.specs.Ids.{summary}
use Rattle.passes.specs.Plan.{own, recorded, full}
use Rattle.passes.specs.Forward.{counted, to_minutes, since_start, still_left, left_by, left_of}
use Rattle.dates.specs.Bounds.{ActualBelow, recorded_below}
use Rattle.remaining.specs.Rows.{start_of, finish_of}

-- with neither day recorded work has not begun
unstarted_by : (w : ℕ → Bool) (a b : Option Date) → status_of a b ≡ NotStarted → actual w a b ≡ Ok Unstarted
unfolding status_of actual
unstarted_by w None None e = refl
unstarted_by w (Some d) None e = clash (cc)
unstarted_by w None (Some f) e = clash (cc)
unstarted_by w (Some d) (Some f) e = clash (cc)

module _ (p : Plan) (i : ℕ) where
  -- ---- what is recorded, and the minutes
  pub recorded_summary : summary p i ≡ true → recorded p i ≡ Ok Unstarted
  unfolding recorded
  recorded_summary e = on_true (summary p i) (Ok Unstarted) _ e

  pub recorded_else : summary p i ≡ false → recorded p i ≡ actual (own p i) (p.activity i).actual_start (p.activity i).actual_finish
  unfolding recorded
  recorded_else e = on_false (summary p i) (Ok Unstarted) _ e

  pub recorded_none : summary p i ≡ false → status_of (p.activity i).actual_start (p.activity i).actual_finish ≡ NotStarted → recorded p i ≡ Ok Unstarted
  recorded_none e n = recorded_else e ∙ unstarted_by (own p i) (p.activity i).actual_start (p.activity i).actual_finish n

  pub full_summary : summary p i ≡ true → full p i ≡ 0
  unfolding full
  full_summary e = on_true (summary p i) 0 (up (p.activity i).minutes) e

  pub full_else : summary p i ≡ false → full p i ≡ up (p.activity i).minutes
  unfolding full
  full_else e = on_false (summary p i) 0 (up (p.activity i).minutes) e

  -- ---- the work left, by what is recorded
  pub left_is : (x : Result Actual ClockError) → x ≡ recorded p i → left_of p i ≡ left_by p i x
  unfolding left_of
  left_is x e = ap (left_by p i) (sym e)

  pub left_unstarted : recorded p i ≡ Ok Unstarted → left_of p i ≡ Ok (full p i)
  left_unstarted e = left_is (Ok Unstarted) (sym e)

  pub left_fresh : (x : Actual) (whole : ℕ) → x ≡ Unstarted → whole ≡ full p i → left_by p i (Ok x) ≡ Ok whole
  left_fresh x whole e f = ap (λ (y : Actual). left_by p i (Ok y)) e ∙ ap Ok (sym f)

  pub left_begun : (x : Actual) (s : ℕ) → x ≡ Begun s → left_by p i (Ok x) ≡ still_left p i s (p.activity i).remaining
  left_begun x s e = ap (λ (y : Actual). left_by p i (Ok y)) e

  pub left_completed : (x : Actual) (s f : ℕ) → x ≡ Completed s f → left_by p i (Ok x) ≡ Ok 0
  left_completed x s f e = ap (λ (y : Actual). left_by p i (Ok y)) e

  pub left_refused : (x : Result Actual ClockError) (k : ClockError) → x ≡ Err k → left_by p i x ≡ Err k
  left_refused x k e = ap (left_by p i) e

  -- a refusal leaves none
  pub left_answers : (x : Result Actual ClockError) (m : ℕ) (k : ClockError) → left_by p i x ≡ Ok m → x ≡ Err k → ⊥
  left_answers x m k e f = let d : ◌≡◌ {A = Result ℕ ClockError} (Err k) (Ok m) = sym (left_refused x k f) ∙ e in clash (cc)

  -- ---- of work under way since s
  module _ (s : ℕ) where
    pub still_told : (x : Option ℤ) (m : ℤ) → x ≡ Some m → still_left p i s x ≡ Ok (to_minutes p m)
    still_told x m e = ap (still_left p i s) e

    pub still_untold : (x : Option ℤ) → x ≡ None → still_left p i s x ≡ since_start p i s p.project.data_date
    still_untold x e = ap (still_left p i s) e

    pub since_none : (d : Option Date) (whole : ℕ) → d ≡ None → whole ≡ full p i → since_start p i s d ≡ Ok whole
    since_none d whole e f = ap (since_start p i s) e ∙ ap Ok (sym f)

    pub since_done : (d : Option Date) (day : Date) (whole : ℕ) (z : ℤ) → d ≡ Some day → whole ≡ full p i
        → between (own p i) s (max (midnight_of day) s) ≡ Ok z → since_start p i s d ≡ Ok (whole - up z)
    since_done d day whole z e f b =
        ap (since_start p i s) e ∙ ap (λ (x : Result ℤ ClockError). counted Err x (λ n. Ok (full p i - n))) b ∙ ap (λ (n : ℕ). Ok (n - up z)) (sym f)

    pub since_refused : (d : Option Date) (day : Date) (k : ClockError) → d ≡ Some day → between (own p i) s (max (midnight_of day) s) ≡ Err k
        → since_start p i s d ≡ Err k
    since_refused d day k e b = ap (since_start p i s) e ∙ ap (λ (x : Result ℤ ClockError). counted Err x (λ n. Ok (full p i - n))) b

-- ---- how much it can be, and how late what is recorded
pub start_below : (x : Actual) → ActualBelow (Ok x) → start_of x < 2 ^ 63
start_below Unstarted h = omega arith
start_below (Begun s) h = h.begun s refl
start_below (Completed s f) h = (h.completed s f refl).0

pub finish_below : (x : Actual) → ActualBelow (Ok x) → finish_of x < 2 ^ 63
finish_below Unstarted h = omega arith
finish_below (Begun s) h = omega arith
finish_below (Completed s f) h = (h.completed s f refl).1

pub is_below : (p : Plan) (i : ℕ) (x : Result Actual ClockError) → x ≡ recorded p i → ActualBelow x
is_below p i x e = rw e (recorded_below p i)

same_left : (m n : ℕ) → ◌≡◌ {A = Result ℕ ClockError} (Ok n) (Ok m) → n ≡ m
same_left m n e = cc

module _ (p : Plan) (i : ℕ) (fits : full p i < 2 ^ 63) where
  counted_below : (x : Result ℤ ClockError) (m : ℕ) → counted Err x (λ n. Ok (full p i - n)) ≡ Ok m → m < 2 ^ 63
  counted_below (Ok z) m e = omega (arith, same_left m (full p i - up z) e)
  counted_below (Err k) m e = clash (cc)

  since_below : (s : ℕ) (d : Option Date) (m : ℕ) → since_start p i s d ≡ Ok m → m < 2 ^ 63
  since_below s None m e = omega (arith, same_left m (full p i) e)
  since_below s (Some day) m e = counted_below (between (own p i) s (max (midnight_of day) s)) m e

  still_below : (s : ℕ) (x : Option ℤ) (m : ℕ) → still_left p i s x ≡ Ok m → m < 2 ^ 63
  still_below s (Some z) m e = omega (arith, same_left m (to_minutes p z) e)
  still_below s None m e = since_below s p.project.data_date m e

  pub left_below : (x : Result Actual ClockError) (m : ℕ) → left_by p i x ≡ Ok m → m < 2 ^ 63
  left_below (Ok Unstarted) m e = omega (arith, same_left m (full p i) e)
  left_below (Ok (Begun s)) m e = still_below s (p.activity i).remaining m e
  left_below (Ok (Completed s f)) m e = omega (arith, same_left m 0 e)
  left_below (Err k) m e = clash (cc)
