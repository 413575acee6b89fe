-- The calendar of civil dates, and its laws.
pub mod Years
pub mod Gregorian
pub mod Days
pub mod March
pub mod YearLaws
pub mod DateLaws
pub mod MarchLaws
pub mod MonthLaws
pub mod CivilLaws
pub mod DaysLaws
pub mod Instances
