-- What the walks answer, on either side of the years that may be read.
pub mod Answers
pub mod Shift
pub mod Between
