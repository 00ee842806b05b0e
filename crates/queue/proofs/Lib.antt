-- The lemmas of the crate.
pub mod Rings
pub mod Frames
pub mod Buffers
pub mod Lefts
