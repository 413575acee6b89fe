-- The run's dates in the lent memory.
pub mod Columns
pub mod Standing
pub mod InHand
pub mod HandLaws
pub mod ColumnLaws
pub mod StandingLaws
pub mod KeptLaws
pub mod OrderLaws
pub mod ThroughLaws
pub mod ReadLaws
pub mod Bounds
pub mod FineLaws
pub mod StepLaws
