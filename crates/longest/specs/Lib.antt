-- The longest path over the lent memory.
pub mod Path
pub mod KeptLaws
pub mod LastLaws
pub mod OwnLaws
pub mod DriveLaws
pub mod MarkLaws
pub mod WalkLaws
