-- The definitions that the contracts cite.
pub mod Held
pub mod Contents
pub mod Left
