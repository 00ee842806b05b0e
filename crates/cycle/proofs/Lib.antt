-- The lemmas of the crate.
pub mod Fitting
pub mod Locations
pub mod Chaining
pub mod Lookups
pub mod NextBuffers
pub mod Scanning
pub mod Visits
pub mod Decisions
pub mod Moves
