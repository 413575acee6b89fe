-- What is shown of each activity, summaries rolled up, and the rows of results.
pub mod Results
pub mod Rows
pub mod View
pub mod Holds
pub mod Showing
pub mod ViewLaws
pub mod Row
pub mod RowLaws
