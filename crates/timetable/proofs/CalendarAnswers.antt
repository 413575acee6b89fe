-- The calendars of a sheet's plan: their walks have the answers that the rules need.
use Rattle.std.specs.Prelude.{◌≡◌, true, List, ℕ, ◌≤◌, length}
use Rattle.std.proofs.Common.{arith}
use Rattle.calendar.specs.declared.Period.{Period}
use Rattle.calendar.specs.Records.{Valid, weekly_hours, round_the_clock}
use Rattle.clock.specs.On.{worked_on}
use Rattle.clock.specs.Weeks.{weeks_next_start, weeks_previous_finish, weeks_advance, weeks_lead, clock_next_start, clock_previous_finish, clock_advance, clock_retreat}
use Rattle.timetable.proofs.AnswerLaws.{Answering}

pub weeks_answering : {week : List (List Period)} {s : List ℕ} {at n : ℕ} → Valid week s at n → length week ≡ 7 → weekly_hours week ≡ true → n ≤ 256
    → Answering (worked_on week s at n)
weeks_answering v seven hours few = record {
  next = λ t. let r = weeks_next_start v seven hours few t in (r.0, r.2);
  previous = λ t l. let r = weeks_previous_finish v seven hours few t (omega arith) in (r.0, r.2);
  forward = λ t n. let r = weeks_advance v seven hours t n in (r.0, r.2);
  back = λ t n l b. weeks_lead v seven hours few t n l b;
}

pub clock_answering : (s : List ℕ) (at : ℕ) → Answering (worked_on round_the_clock s at 0)
clock_answering s at = record {
  next = λ t. (t, clock_next_start s at t);
  previous = λ t l. (t, clock_previous_finish s at t (omega arith));
  forward = λ t n. (_, clock_advance s at t n);
  back = λ t n l b. (_, clock_retreat s at t n (omega arith));
}
