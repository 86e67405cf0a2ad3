pub mod Inserted
pub mod Ordered
pub mod Comparing
pub mod Presences
pub mod Fitting
pub mod Filtered
