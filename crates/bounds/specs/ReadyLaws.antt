-- What the checks say of the kept links that the passes are lent: their ends are activities, and their lags fit.
use Rattle.memory.specs.declared.Tables.{Tables}
use Rattle.std.specs.Prelude.{◌≡◌, refl, List, ℕ, ◌+◌, ◌≤◌, ◌<◌, length}
use Rattle.std.proofs.Common.{subst, arith}
use Rattle.number.specs.Zed.{up, dn}
use Rattle.sheet.specs.declared.Contents.{Contents}
use Rattle.memory.specs.Seen.{state}
use Rattle.topology.specs.Order.{ChainsIn, ChainsOut}
use Rattle.order.specs.Plan.{plan_of, plan_in}
use Rattle.order.specs.Ties.{kept_below}
use Rattle.passes.specs.Plan.{tie}
use Rattle.dates.specs.Standing.{Ready}
use Rattle.dates.specs.FineLaws as fine
use Rattle.calendars.specs.declared.plan_sheet.PlanSheet.{PlanSheet}

pub activities_are : (s : List ℕ) (c : Contents) → (plan_of s c).activities ≡ c.activities
unfolding plan_of
activities_are s c = refl

pub links_are : (s : List ℕ) (c : Contents) → (plan_of s c).links ≡ c.links
unfolding plan_of
links_are s c = refl

module _ {plan : PlanSheet} {tables : Tables} (R : Ready plan tables) where
  -- the number of link records that the kept ones are among
  pub kept_within : tables.kept ≤ plan.sheet.contents.links
  kept_within = omega (arith, R.standing.within, links_are plan.sheet.bytes.now plan.sheet.contents)

  as_many : (plan_in plan.sheet).activities ≡ tables.activities
  as_many = omega (arith, activities_are plan.sheet.bytes.now plan.sheet.contents, R.activities)

  -- the chains, as far as the tables reach
  pub into_chains : ChainsIn tables.activities tables.kept (state tables)
  into_chains = subst (λ (a : ℕ). ChainsIn a tables.kept (state tables)) as_many R.standing.chains_in

  pub out_chains : ChainsOut tables.activities tables.kept (state tables)
  out_chains = subst (λ (a : ℕ). ChainsOut a tables.kept (state tables)) as_many R.standing.chains_out

  module _ (k : ℕ) (l : k < tables.kept) where
    counted : k < length (kept_below (plan_in plan.sheet) (plan_in plan.sheet).links)
    counted = omega (arith, R.standing.count)

    pub tie_from_below : (tie (plan_in plan.sheet) k).from < plan.sheet.contents.activities
    tie_from_below = omega (arith, fine.tie_from_below (plan_in plan.sheet) R.fine k counted, activities_are plan.sheet.bytes.now plan.sheet.contents)

    pub tie_to_below : (tie (plan_in plan.sheet) k).to < plan.sheet.contents.activities
    tie_to_below = omega (arith, fine.tie_to_below (plan_in plan.sheet) R.fine k counted, activities_are plan.sheet.bytes.now plan.sheet.contents)

    pub tie_lag_fits : up (tie (plan_in plan.sheet) k).lag + dn (tie (plan_in plan.sheet) k).lag ≤ 144000000
    tie_lag_fits = fine.tie_lag_below (plan_in plan.sheet) R.fine k counted
