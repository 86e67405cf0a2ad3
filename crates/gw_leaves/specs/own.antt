-- The program's own words: no public contract rests on them.
pub mod Comparisons
pub mod Held
pub mod Parts
pub mod Seen
