-- The definitions of cells and of loops over them, and their laws.
pub mod Cell
pub mod Fold
pub mod Tried
pub mod Chain
pub mod CellLaws
pub mod FoldLaws
pub mod TriedLaws
pub mod ChainLaws
