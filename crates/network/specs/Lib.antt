pub mod Network
pub mod Laws
pub mod Walks
pub mod Routes
pub mod Texts
