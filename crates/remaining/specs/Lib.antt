-- Recorded dates and the work left, row by row.
pub mod Rows
pub mod RowLaws
pub mod LeftLaws
