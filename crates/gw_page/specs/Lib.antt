pub mod Answers
pub mod Connections
pub mod Escapes
pub mod Health
pub mod Recent
pub mod Rows
pub mod Samples
pub mod Status
