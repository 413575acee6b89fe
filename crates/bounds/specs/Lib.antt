-- The bounds that kept links put on their successors.
pub mod ReadyLaws
pub mod BoundLaws
pub mod LinkLaws
