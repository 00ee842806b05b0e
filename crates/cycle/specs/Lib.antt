-- The definitions that the contracts cite.
pub mod Measures
pub mod Chains
pub mod Plans
pub mod Starts
pub mod Decided
pub mod Moves
