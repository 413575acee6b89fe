-- The definitions of the numbers, and their laws.
pub mod Exits
pub mod Order
pub mod Bit
pub mod BitLaws
pub mod Bytes
pub mod Tests
pub mod BytesLaws
pub mod Zed
pub mod ZedLaws
pub mod QuotLaws
pub mod CastLaws
pub mod Sign
pub mod SignLaws
pub mod Instances
