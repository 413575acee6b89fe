-- The plan's calendars as values, and the tables that are lent for them.
pub mod Packed
pub mod PackedLaws
pub mod Props
pub mod Calendars
pub mod CalendarLaws
pub mod Tables
pub mod TableLaws
pub mod HoursLaws
pub mod RowLaws
