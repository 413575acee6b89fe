-- Demand 3 about the call's own answers.
pub mod Demand
