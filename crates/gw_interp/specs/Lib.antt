pub mod Occurrences
pub mod Meaning
pub mod Sound
pub mod own
