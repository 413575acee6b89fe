-- The laws of the checks and of the links that are kept.
pub mod CheckLaws
pub mod RowLaws
pub mod FineLaws
pub mod IgnoredLaws
pub mod OpenLaws
pub mod LoopLaws
pub mod ParentLoopLaws
pub mod TwelveLaws
