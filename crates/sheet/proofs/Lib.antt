-- What the proofs share.
pub mod Taken
