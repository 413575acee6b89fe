-- The run in stages.
pub mod Stages
pub mod StageLaws
pub mod RunLaws
