-- The theorems of the order and the loops of the network, of which `KahnLaws`, `ParentLoops` and `ParentRows` speak, and the same as loops over arrays meet them.
pub mod Meeting
pub mod Draining
pub mod GoingBack
pub mod NamedLoop
pub mod KahnLaws
pub mod ParentLoops
pub mod ParentRows
pub mod Prefix
pub mod ProgressLaws
pub mod ProgressEnds
pub mod BackSteps
pub mod BackWalk
