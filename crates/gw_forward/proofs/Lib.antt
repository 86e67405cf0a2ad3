pub mod Passing
pub mod Naming
