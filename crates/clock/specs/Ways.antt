-- The walks that first ask whether a minute is worked: what that answer makes of them.
use Rattle.std.specs.Prelude.{◌≡◌, Bool, true, false, ℕ, ◌-◌, ◌≤◌, ◌<◌, ℤ, pos, negsuc, Result, Ok, Err}
use Rattle.worktime.specs.declared.ClockError.{ClockError}
use Rattle.std.proofs.Common.{sym, ap, ◌∙◌, arith}
use Rattle.number.specs.Zed.{up, dn}
use Rattle.worktime.specs.Worked.{closing}
use Rattle.worktime.specs.Count.{closing_before}
use Rattle.worktime.specs.Walks.{first_minute, end_minute, next_start, previous_finish, next_finish, working_at, previous_start, start_by, minute_before, advance, retreat, shift}
use Rattle.worktime.specs.Reads.{minute_range}
use Rattle.worktime.proofs.Answers.{working_at_sound, working_at_why, next_start_worked, next_start_out, next_finish_closing, next_finish_else, next_finish_out_before, previous_start_next, start_by_worked, start_by_else, start_by_out}
use Rattle.worktime.proofs.Shift.{shift_forward, shift_back}

module _ (w : ℕ → Bool) (t : ℕ) (r : Result Bool ClockError) where
  module _ (e : r ≡ working_at w t) where
    asked : (b : Bool) → r ≡ Ok b → (b ≡ w t) × (first_minute ≤ t) × (t < end_minute)
    asked b f = let s = working_at_sound w t b (sym e ∙ f) in let m = minute_range t s.1 in (s.0, m.0, m.1)

    pub previous_start_here : (b : Bool) → r ≡ Ok b → b ≡ true → Ok t ≡ previous_start w t
    previous_start_here b f h = let a = asked b f in sym (previous_start_next w t ∙ next_start_worked w t (sym a.0 ∙ h) a.1 a.2)

    pub previous_start_refuses : (k : ClockError) → r ≡ Err k → Err k ≡ previous_start w t
    previous_start_refuses k f =
        let s = working_at_why w t k (sym e ∙ f) in ap Err s.0 ∙ sym (previous_start_next w t ∙ next_start_out w t s.1)

    pub start_by_here : (b : Bool) → r ≡ Ok b → b ≡ true → Ok t ≡ start_by w t
    start_by_here b f h = let a = asked b f in sym (start_by_worked w t (sym a.0 ∙ h) a.1 a.2)

    pub start_by_finish : (b : Bool) → r ≡ Ok b → b ≡ false → (p : Result ℕ ClockError) → p ≡ previous_finish w t → minute_before p ≡ start_by w t
    start_by_finish b f h p q = let a = asked b f in ap minute_before q ∙ sym (start_by_else w t (sym a.0 ∙ h))

    pub start_by_refuses : (k : ClockError) → r ≡ Err k → Err k ≡ start_by w t
    start_by_refuses k f = let s = working_at_why w t k (sym e ∙ f) in ap Err s.0 ∙ sym (start_by_out w t s.1)

  module _ (e : r ≡ working_at w (t - 1)) (l : 0 < t) (m : t < end_minute) where
    closed : (b : Bool) → r ≡ Ok b → (closing w t ≡ b) × (first_minute < t)
    closed b f =
        let s = working_at_sound w (t - 1) b (sym e ∙ f) in
        let q = minute_range (t - 1) s.1 in
        (closing_before w t l ∙ sym s.0, omega arith)

    pub next_finish_here : (b : Bool) → r ≡ Ok b → b ≡ true → Ok t ≡ next_finish w t
    next_finish_here b f h = let a = closed b f in sym (next_finish_closing w t a.1 m (a.0 ∙ h))

    pub next_finish_start : (b : Bool) → r ≡ Ok b → b ≡ false → next_start w t ≡ next_finish w t
    next_finish_start b f h = let a = closed b f in sym (next_finish_else w t a.1 m (a.0 ∙ h))

    pub next_finish_refuses : (k : ClockError) → r ≡ Err k → Err k ≡ next_finish w t
    next_finish_refuses k f =
        let s = working_at_why w (t - 1) k (sym e ∙ f) in ap Err s.0 ∙ sym (next_finish_out_before w t s.1)

-- ---- shift, by the two sides of the lag
pub shift_up : (w : ℕ → Bool) (t : ℕ) (z : ℤ) → dn z ≡ 0 → advance w t (up z) ≡ shift w t z
shift_up w t (pos n) h = sym (shift_forward w t n)
shift_up w t (negsuc n) h = absurd (omega arith)

pub shift_down : (w : ℕ → Bool) (t : ℕ) (z : ℤ) → 0 < dn z → retreat w t (dn z) ≡ shift w t z
shift_down w t (pos n) h = absurd (omega arith)
shift_down w t (negsuc n) h = sym (shift_back w t n)
