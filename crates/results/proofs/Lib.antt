-- The laws of what is shown of an activity, and of the rows that show it.
pub mod ShowingLaws
pub mod RowLaws
