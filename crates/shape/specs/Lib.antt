pub mod Shapes
pub mod Topologies
pub mod Examples
pub mod ShapeLaws
