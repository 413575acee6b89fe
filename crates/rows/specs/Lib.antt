-- The rows of results as they are written, and the finish day.
pub mod Writing
pub mod WritingLaws
