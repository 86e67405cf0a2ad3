-- The program's own words: no public contract rests on them.
pub mod Borrowed
pub mod Classes
pub mod Scanned
pub mod Separators
pub mod Gathered
pub mod Ordered
pub mod Gaps
pub mod Canonical
pub mod Spans
pub mod Standing
