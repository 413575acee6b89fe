-- The network of activities and links. First the definitions that contracts cite.
pub mod Links
pub mod Kahn
pub mod Parents
pub mod ParentLinks
pub mod Outgoing
pub mod Instances
-- Kahn's order: `KahnLaws` has the theorems
pub mod Times
pub mod Pending
pub mod PendingLaws
pub mod OutgoingLaws
pub mod Draining
pub mod Placed
-- loops of parents: `ParentLoops`, `ParentRows` and `Depth` have the theorems
pub mod Climbing
pub mod Depth
-- the same as loops over arrays meet them
pub mod Chains
pub mod Array
pub mod ArrayLaws
pub mod ParentSteps
