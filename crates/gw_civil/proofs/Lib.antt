pub mod Stamped
pub mod Passed
