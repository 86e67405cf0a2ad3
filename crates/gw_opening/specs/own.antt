-- The program's own words: no public contract rests on them.
pub mod Alike
