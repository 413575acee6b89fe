-- The timetable rules.
pub mod Rules
pub mod Fit
pub mod WalkLaws
