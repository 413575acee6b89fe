-- The lent memory as a state of two tables, the chains through it, and their laws.
pub mod State
pub mod Chains
pub mod Left
pub mod LeftLaws
pub mod Columns
pub mod StateLaws
pub mod ChainsLaws
pub mod Fields
pub mod Seen
pub mod SeenLaws
pub mod Kept
pub mod Rows
pub mod Shared
