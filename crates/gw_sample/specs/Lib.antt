pub mod FewestTexts
pub mod Samples
pub mod own
