-- Summaries rolled up from their children, deepest first.
pub mod Chained
pub mod ChainedLaws
pub mod Children
pub mod ChildrenLaws
pub mod Depths
pub mod DepthLaws
pub mod Prepared
pub mod Roll
pub mod Rolling
pub mod RollLaws
pub mod RollingLaws
pub mod PreparedLaws
