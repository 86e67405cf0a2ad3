-- The program's own words: no public contract rests on them.
pub mod Borrowed
pub mod Sourced
pub mod Putting
pub mod Ready
pub mod Filling
pub mod Making
pub mod Parts
