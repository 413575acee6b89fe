-- One activity's early dates.
pub mod InHand
pub mod EarlyLaws
