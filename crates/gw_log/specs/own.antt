-- The program's own words: no public contract rests on them.
pub mod Steps
pub mod Turns
pub mod Opens
