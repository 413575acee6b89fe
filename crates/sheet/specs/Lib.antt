-- Reading the sheet.
pub mod Reading
pub mod Places
pub mod Kinds
pub mod Known
pub mod RunLaws
pub mod JudgeLaws
pub mod RunSteps
pub mod PlaceLaws
pub mod InOrder
pub mod ValidLaws
pub mod CalendarLaws
pub mod CalendarSteps
pub mod ReadLaws
pub mod Examples
pub mod Props
