-- Free float and held late moves over the lent memory.
pub mod Slack
pub mod SlackLaws
pub mod FitLaws
pub mod StoreLaws
pub mod GapLaws
pub mod PassLaws
