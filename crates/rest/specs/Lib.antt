-- The memory but for what stands for the passes. First the definitions that contracts cite, then laws.
pub mod Stands
pub mod ClearedLaws
pub mod RestLaws
pub mod ChainedLaws
