-- `ties::lags::Lag::is_too_long` meets its contract: before the conversion, and after it.
use mathlib.Core.Path.{◌≡◌, sym, ◌∙◌}
use mathlib.Core.Bool.{false}
use mir.Facts.{to_z-of_z}
use mir.Syntax.{w64}
use Rattle.order.specs.Lags.{lag_before, lag_too_long}
use Rattle.order.specs.LagLaws.{lag_long_before}
use Rattle.ties.proofs.lags.Lag.is_too_long.Goals as goal

pub returns-then-lag_before : goal.returns-then-lag_before
returns-then-lag_before c =
    c.if-lag_before.true ∙ sym (lag_long_before _ _ _ (sym c.lag_before.ensures ∙ c.if-lag_before.true))

pub minutes-requires : goal.minutes-requires
minutes-requires c = sym c.lag_before.ensures ∙ c.if-lag_before.false

pub returns-else-lag_before : goal.returns-else-lag_before
unfolding lag_too_long
returns-else-lag_before c =
    let m = c.minutes.ensures.0 in
    let e = rw (to_z-of_z {w = w64} (record { sfits = c.minutes.type_inv }), m) at c.is_beyond.ensures in
    let b : lag_before c.args.self.now.lag ≡ false = sym c.lag_before.ensures ∙ c.if-lag_before.false in
    rw (lag_too_long, b) e
