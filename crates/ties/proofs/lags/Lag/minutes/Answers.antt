-- `ties::lags::Lag::minutes` meets its contract, by the five kinds of lag.
use borrow.Author.Rules.{rules}
use mathlib.Core.Path.{◌≡◌, refl, sym, ◌∙◌}
use lib.IntN.{pos, ◌*ℤ◌}
use mir.Facts.{to_z-of_z}
use mir.Syntax.{w32, w64}
use mir.Val.{SFits}
use Rattle.number.specs.Sign.{percent_of}
use Rattle.order.specs.Lags.{lag_minutes}
use Rattle.order.specs.LagLaws.{lag_size}
use Rattle.ties.specs.Widened.{widened_back}
use Rattle.ties.proofs.lags.Lag.minutes.Goals as goal

minutes : (c : goal.After-days_in_minutes) → let a = c.args.self.now in
    lag_minutes a.lag a.day_length a.duration ≡ c.in-WorkingDays.n *ℤ pos a.day_length
unfolding lag_minutes
minutes c = rw c.in-WorkingDays.is

pub days_in_minutes-requires : goal.days_in_minutes-requires
days_in_minutes-requires c = c.args.self.now.day_within

pub returns-in-WorkingDays : goal.returns-in-WorkingDays
returns-in-WorkingDays c =
    let a = c.args.self.now in
    let f : SFits w32 c.in-WorkingDays.n = record { sfits = search rules } in
    let e = rw (to_z-of_z f) at c.days_in_minutes.ensures ∙ sym (minutes c) in
    rw (to_z-of_z (record { sfits = c.days_in_minutes.type_inv }), e) (refl, lag_size a.day_length a.duration a.day_within a.duration_within a.lag c.requires)

minutes-2 : (c : goal.In-WorkingMinutes) → let a = c.args.self.now in
    lag_minutes a.lag a.day_length a.duration ≡ c.in-WorkingMinutes.n
unfolding lag_minutes
minutes-2 c = rw c.in-WorkingMinutes.is

pub returns-in-WorkingMinutes : goal.returns-in-WorkingMinutes
returns-in-WorkingMinutes c = let a = c.args.self.now in rw (widened_back c.in-WorkingMinutes.n (record { sfits = search rules }), sym (minutes-2 c)) (refl, lag_size a.day_length a.duration a.day_within a.duration_within a.lag c.requires)

minutes-3 : (c : goal.After-days_in_minutes-in-ElapsedDays) → let a = c.args.self.now in
    lag_minutes a.lag a.day_length a.duration ≡ c.in-ElapsedDays.n *ℤ pos 1440
unfolding lag_minutes
minutes-3 c = rw c.in-ElapsedDays.is

pub returns-in-ElapsedDays : goal.returns-in-ElapsedDays
returns-in-ElapsedDays c =
    let a = c.args.self.now in
    let f : SFits w32 c.in-ElapsedDays.n = record { sfits = search rules } in
    let e = rw (to_z-of_z f) at c.days_in_minutes-in-ElapsedDays.ensures ∙ sym (minutes-3 c) in
    rw (to_z-of_z (record { sfits = c.days_in_minutes-in-ElapsedDays.type_inv }), e) (refl, lag_size a.day_length a.duration a.day_within a.duration_within a.lag c.requires)

minutes-4 : (c : goal.In-ElapsedMinutes) → let a = c.args.self.now in
    lag_minutes a.lag a.day_length a.duration ≡ c.in-ElapsedMinutes.n
unfolding lag_minutes
minutes-4 c = rw c.in-ElapsedMinutes.is

pub returns-in-ElapsedMinutes : goal.returns-in-ElapsedMinutes
returns-in-ElapsedMinutes c = let a = c.args.self.now in rw (widened_back c.in-ElapsedMinutes.n (record { sfits = search rules }), sym (minutes-4 c)) (refl, lag_size a.day_length a.duration a.day_within a.duration_within a.lag c.requires)

minutes-5 : (c : goal.After-percent) → let a = c.args.self.now in
    lag_minutes a.lag a.day_length a.duration ≡ percent_of a.duration c.in-Percent.n
unfolding lag_minutes
minutes-5 c = rw c.in-Percent.is

pub returns-in-Percent : goal.returns-in-Percent
returns-in-Percent c =
    let a = c.args.self.now in
    let d : SFits w64 a.duration = record { sfits = search rules } in
    let e = rw (widened_back c.in-Percent.n (record { sfits = search rules }), to_z-of_z d) at c.percent.ensures.0 ∙ sym (minutes-5 c) in
    rw (to_z-of_z (record { sfits = c.percent.type_inv }), e) (refl, lag_size a.day_length a.duration a.day_within a.duration_within a.lag c.requires)
