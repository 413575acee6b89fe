-- The early starts of a plan obey the timetable rules and are the least that do; and every walk of the rules has an answer.
pub mod BoundLaws
pub mod StepLaws
pub mod PassLaws
pub mod LeastLaws
pub mod Earliest
pub mod HeldLaws
pub mod Demand
pub mod AnswerLaws
pub mod CalendarAnswers
pub mod SheetPlan
