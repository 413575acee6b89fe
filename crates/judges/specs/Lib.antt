-- The judges of one record.
pub mod Judging
pub mod StepLaws
