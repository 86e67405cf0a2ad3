pub mod Passes
pub mod own
