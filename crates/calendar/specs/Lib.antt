-- A calendar's hours.
pub mod Hours
pub mod Records
pub mod HoursLaws
pub mod Steps
pub mod WeekLaws
pub mod DayLaws
pub mod ValidLaws
pub mod Props
pub mod Exceptions
pub mod Value
