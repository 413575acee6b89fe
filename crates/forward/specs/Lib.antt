-- The forward pass over the lent memory.
pub mod Linked
pub mod LinkedLaws
pub mod RaiseLaws
pub mod StoreLaws
