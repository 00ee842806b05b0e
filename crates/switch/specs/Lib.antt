pub mod Places
pub mod Buffers
pub mod Cycle
pub mod Calls
pub mod History
pub mod Law
pub mod Invariant
