-- The parts of the longer tests.
pub mod Parts
