-- The laws of where an activity's work can begin and end.
pub mod PlacingLaws
pub mod PlacingSound
pub mod DateSound
