pub mod Refusals
pub mod Labels
pub mod Relabels
pub mod RelabelledLaws
