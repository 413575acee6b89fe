-- The scheduling call.
pub mod Answers
pub mod Outcome
pub mod CallLaws
pub mod InC
