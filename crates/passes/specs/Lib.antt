-- The passes.
pub mod Plan
pub mod Dates
pub mod Forward
pub mod Backward
pub mod Floats
pub mod Run
