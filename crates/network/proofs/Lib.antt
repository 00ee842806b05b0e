pub mod Options
pub mod Restricted
pub mod Consequences
pub mod Walking
pub mod Propositions
