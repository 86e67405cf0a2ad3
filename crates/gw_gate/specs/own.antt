-- The program's own words: no public contract rests on them.
pub mod Desks
pub mod Books
pub mod Cutting
