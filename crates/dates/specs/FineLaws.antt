-- What the passes may count on in a plan that the checks accept: its activities' minutes and its kept links' ends, lags and calendars.
use Rattle.std.specs.Prelude.{◌≡◌, ℕ, ◌+◌, ◌≤◌, ◌<◌, length, get_or}
use Rattle.number.specs.Zed.{up, dn}
use Rattle.order.specs.Plan.{Plan}
use Rattle.order.specs.Ties.{tie_of, kept_below}
use Rattle.order.specs.Checks.{checked, before_ordering, judge_order}
use Rattle.order.specs.CheckLaws.{ActivityFine}
use Rattle.order.specs.VerdictLaws.{or_fine}
use Rattle.order.specs.FineLaws.{PlanFine}
use Rattle.order.proofs.FineLaws.{plan_fine_lem}
use Rattle.order.specs.TieLaws.{kept_picked, from_below, to_below}
use Rattle.order.specs.LagLaws.{tie_lag, tie_calendar_lem}
use Rattle.passes.specs.Plan.{tie}

module _ (p : Plan) (fine : (checked p).number ≡ 0) where
  pub checked_fine : PlanFine p
  unfolding checked
  checked_fine = (plan_fine_lem p).0 ((or_fine (before_ordering p) (judge_order p)).0 fine).0

  -- minutes are not negative and at most 48,000,000, and the calendar is one of the sheet's
  pub activity_checked : (i : ℕ) → i < p.activities → ActivityFine p i
  activity_checked = checked_fine.activities

  -- the t-th kept link
  module _ (t : ℕ) (within : t < length (kept_below p p.links)) where
    link_below : get_or (kept_below p p.links) t 0 < p.links
    link_below = (kept_picked p p.links).below t within

    pub tie_from_below : (tie p t).from < p.activities
    unfolding tie_of
    tie_from_below = from_below p checked_fine.links (get_or (kept_below p p.links) t 0) link_below

    pub tie_to_below : (tie p t).to < p.activities
    unfolding tie_of
    tie_to_below = to_below p checked_fine.links (get_or (kept_below p p.links) t 0) link_below

    pub tie_lag_below : up (tie p t).lag + dn (tie p t).lag ≤ 144000000
    tie_lag_below = tie_lag p checked_fine.links (get_or (kept_below p p.links) t 0) link_below ((kept_picked p p.links).has t within)

    pub tie_calendar_below : (tie p t).calendar ≤ p.calendars
    tie_calendar_below = tie_calendar_lem p checked_fine.links (get_or (kept_below p p.links) t 0) link_below checked_fine.activities
