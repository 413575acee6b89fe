-- `placing::dates::start_of_day` meets its contract. The day's first worked minute is the least of the 1440 from its midnight on.
use Rattle.std.specs.Prelude.{Ok, Err}
use mathlib.Core.Path.{◌≡◌, refl, sym, ap, ◌∙◌}
use native.Mathlib.Omega.{arith}
use Prim.Native.Nat.{ℕ, ◌+◌, ◌*◌, ◌/◌, ◌<◌}
use Rattle.std.specs.Prelude.{unwrap_or}
use Rattle.std.proofs.lemmas.Result.{IfOk-at_ok}
use Rattle.calendar.specs.Hours.{worked}
use Rattle.calendar.specs.Value.{hours_of}
use Rattle.date.specs.Years.{in_years}
use Rattle.number.specs.Exits.{handed_on}
use Rattle.worktime.specs.Reads.{reads_in, reads_out, day_read, day_refused}
use Rattle.clock.specs.Days.{hand_next}
use Rattle.placing.specs.Placing.{day_start}
use Rattle.placing.proofs.PlacingLaws.{day_start_tells}
use Rattle.placing.proofs.dates.start_of_day.Goals as goal

pub overflow_add-result : goal.overflow_add-result
overflow_add-result c =
    let d = c.in_ok-d.d in
    let h = hours_of c.args.calendar.now in
    let f = day_start_tells h d (c.args.calendar.now.valid.ordered d) _ (hand_next h d (c.args.calendar.now.valid.ordered d) _ c.hours_on-hours.ensures.0 0 _ _ c.next_minute.ensures refl) in
    let g : c.unwrap_or.result < 1440 = rw c.unwrap_or.ensures f.1 in
    omega (arith, g, c.midnight-t.ensures.1)

pub returns : goal.returns
returns c =
    let d = c.in_ok-d.d in
    let h = hours_of c.args.calendar.now in
    let t = c.midnight-t.result in
    let e = c.midnight-t.ensures.0 in
    let y = IfOk-at_ok _ c.in_ok-d.was c.read_day.ensures.1 in
    let q : d * 1440 ≡ t = omega (arith, e, y.0) in
    let f = day_start_tells h d (c.args.calendar.now.valid.ordered d) _ (hand_next h d (c.args.calendar.now.valid.ordered d) _ c.hours_on-hours.ensures.0 0 _ _ c.next_minute.ensures refl) in
    let g : day_start (worked h) t ≡ t + unwrap_or c.next_minute.result 0 = rw q at f.0 in
    sym
    (reads_in Err _ _ (ap (λ (x : ℕ). in_years (x / 1440)) (sym e) ∙ day_read _ _ c.read_day.ensures.0 c.in_ok-d.was)
    ∙ ap Ok (ap (day_start (worked h)) (sym e) ∙ g ∙ ap (λ x. t + x) (sym c.unwrap_or.ensures)))

pub returns-in_err-d : goal.returns-in_err-d
returns-in_err-d c =
    let e = c.midnight-t.ensures.0 in
    let r = day_refused _ _ c.read_day.ensures.0 c.in_err-d.was in
    rw (handed_on _ _ c.from_residual.ensures.1) (ap Err r.0 ∙ sym (reads_out Err _ _ (ap (λ (x : ℕ). in_years (x / 1440)) (sym e) ∙ r.1)))
