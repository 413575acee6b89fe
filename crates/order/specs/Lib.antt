-- The checks before the passes. First the definitions that contracts cite.
pub mod Plan
pub mod InSheet
pub mod Ids
pub mod Lags
pub mod Ties
pub mod Checks
pub mod Refusals
pub mod Demand
-- the first refusal, and each check by its ways
pub mod VerdictLaws
pub mod RefusalLaws
pub mod CheckLaws
-- what the checks leave: ids, parents, links and lags
pub mod IdLaws
pub mod FineLaws
pub mod ParentLaws
pub mod TieLaws
pub mod LagLaws
-- demand 3: `LoopLaws` and `TwelveLaws` have the theorems
pub mod Examples
