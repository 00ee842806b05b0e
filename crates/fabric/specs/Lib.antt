pub mod Refusals
pub mod Bodies
pub mod Traces
pub mod Fabrics
