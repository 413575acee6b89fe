-- What the demands ask of the call's answers.
pub mod Refusals
pub mod RunRefusals
pub mod RowLaws
pub mod Demand
pub mod Example
pub mod Marked
pub mod ExampleSheet
pub mod ExampleRules
