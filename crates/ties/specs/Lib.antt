-- Links with their ends and lags.
pub mod Ends
pub mod Checked
pub mod EndLaws
pub mod TieSteps
pub mod CheckSteps
pub mod Widened
pub mod Judging
