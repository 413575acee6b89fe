-- The late dates of one activity.
pub mod Unfinished
pub mod Times
pub mod UnfinishedLaws
pub mod LimitLaws
pub mod PlaceLaws
pub mod LinkLaws
pub mod StandLaws
