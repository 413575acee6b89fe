-- Working time over any set of worked minutes.
pub mod Number
pub mod Worked
pub mod Walks
pub mod Count
pub mod Relations
pub mod Adjoint
pub mod Search
pub mod Reads
pub mod Exist
pub mod Lower
