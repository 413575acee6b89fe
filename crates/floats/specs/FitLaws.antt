-- The dates of a held late move lie in the years that may be read, so that the memory holds them.
use Rattle.std.specs.Prelude.{◌≡◌, Bool, ℕ, ◌≤◌, ◌<◌, Result, Ok, Err}
use Rattle.dates.specs.declared.Span.{Span}
use Rattle.floats.specs.Slack.{moved_to}
use Rattle.worktime.specs.declared.ClockError.{ClockError}
use Rattle.std.proofs.Common.{sym, ap, ◌∙◌, ⊎_elim, arith}
use Rattle.number.specs.Order.{eq_or_ne, lt_or_le}
use Rattle.worktime.specs.Count.{count_mono}
use Rattle.worktime.specs.Reads.{at_or_refused}
use Rattle.worktime.specs.Walks.{end_minute, advance, retreat}
use Rattle.worktime.proofs.Shift.{retreat_sound}
use Rattle.project.specs.declared.ActivityKind.{ActivityKind}
use Rattle.placing.specs.Placing.{place_start, finish_of}
use Rattle.placing.proofs.PlacingSound.{same_time, walk_ways, place_start_sound, finish_of_bound}
use Rattle.floats.specs.Slack.{start_moved, dates_moved}
use Rattle.floats.specs.SlackLaws.{start_moved_refuses, start_moved_unplaced, start_moved_none, start_moved_far, start_moved_back, dates_moved_refuses, dates_moved_far, dates_moved_to}

moved_or_refused : {x : Result Span ClockError} {s f : ℕ} {k : ClockError} → x ≡ moved_to s f → x ≡ Err k → ⊥
moved_or_refused p q = let z : ◌≡◌ {A = ℕ} 0 1 = cc in omega arith

module _ (w : ℕ → Bool) where
  -- going back ends no later
  retreat_bound : (t n u : ℕ) → 0 < n → retreat w t n ≡ Ok u → u ≤ end_minute
  retreat_bound t n u l e =
      let r = retreat_sound w e in
      ⊎_elim (λ (h : t < u). absurd (omega (arith, r.0.total, count_mono w {s = t} {t = u} (omega arith))))
      (λ (h : u ≤ t). omega (arith, r.1 l)) (lt_or_le t u)

  module _ (kind : ActivityKind) (es ef left n : ℕ) where
    start_bound : (s : ℕ) → start_moved w kind es ef left n ≡ Ok s → s ≤ end_minute
    start_bound s e =
        ⊎_elim
        (λ a.
        ⊎_elim
        (λ b.
        ⊎_elim
        (λ z.
        let h = same_time e (start_moved_none w kind es ef left n a.0 a.1 b.0 b.1 z) in
        omega (arith, (place_start_sound w kind a.0 b.0 b.1).within))
        (λ z.
        ⊎_elim
        (λ x. retreat_bound x.0 left s (omega (arith, z)) (sym (start_moved_back w kind es ef left n a.0 a.1 b.0 b.1 z x.0 x.1) ∙ e))
        (λ x. absurd (at_or_refused e (start_moved_far w kind es ef left n a.0 a.1 b.0 b.1 z x.0 x.1)))
        (walk_ways (advance w ef n)))
        (eq_or_ne left 0))
        (λ b. absurd (at_or_refused e (start_moved_unplaced w kind es ef left n a.0 a.1 b.0 b.1)))
        (walk_ways (place_start w kind a.0)))
        (λ a. absurd (at_or_refused e (start_moved_refuses w kind es ef left n a.0 a.1)))
        (walk_ways (advance w es n))

    pub moved_bound : (s f : ℕ) → dates_moved w kind es ef left n ≡ moved_to s f → (s ≤ end_minute) × (f ≤ end_minute)
    moved_bound s f e =
        ⊎_elim
        (λ a.
        ⊎_elim
        (λ b.
        let g = dates_moved_to w kind es ef left n a.0 a.1 b.0 b.1 in
        let r : ◌≡◌ {A = Span} (record { start = a.0; finish = b.0 }) (record { start = s; finish = f }) = cc in
        let p : a.0 ≡ s = ap (λ (z : Span). z.start) r in
        let q : b.0 ≡ f = ap (λ (z : Span). z.finish) r in
        let x = start_bound a.0 a.1 in
        let y = finish_of_bound w left a.0 b.0 x b.1 in
        (omega arith, omega arith))
        (λ b. absurd (moved_or_refused e (dates_moved_far w kind es ef left n a.0 a.1 b.0 b.1)))
        (walk_ways (finish_of w left a.0)))
        (λ a. absurd (moved_or_refused e (dates_moved_refuses w kind es ef left n a.0 a.1)))
        (walk_ways (start_moved w kind es ef left n))
