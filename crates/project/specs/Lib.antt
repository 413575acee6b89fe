-- The sheet's records.
pub mod Fields
pub mod Records
pub mod Values
pub mod Status
pub mod Ranges
pub mod RecordLaws
