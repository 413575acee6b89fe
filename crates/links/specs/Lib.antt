-- The links of a plan in the lent memory.
pub mod Stored
pub mod Answers
pub mod StoreLaws
pub mod LinkSteps
