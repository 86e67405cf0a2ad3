pub mod Stamps
pub mod Rows
pub mod Headers
pub mod Conditions
pub mod Answers
pub mod Seen
pub mod Acknowledged
pub mod own
