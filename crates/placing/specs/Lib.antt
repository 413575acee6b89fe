-- Where an activity's work can begin and end.
pub mod Placing
