-- The backward pass.
pub mod Finish
pub mod Stored
pub mod FinishLaws
pub mod BackLaws
pub mod Turn
