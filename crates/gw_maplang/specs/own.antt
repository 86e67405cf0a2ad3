-- The program's own words: no public contract rests on them.
pub mod Building
pub mod Widths
pub mod Finding
