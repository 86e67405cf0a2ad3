pub mod Names
pub mod Layers
