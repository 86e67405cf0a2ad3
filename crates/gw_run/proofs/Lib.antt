pub mod Crossing
pub mod Counting
