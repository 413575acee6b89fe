-- What the proofs of several functions share.
pub mod Entries
pub mod RangesBack
pub mod Searches
