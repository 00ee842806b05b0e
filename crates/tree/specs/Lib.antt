pub mod Trees
pub mod TreeLaws
pub mod TreeFacts
