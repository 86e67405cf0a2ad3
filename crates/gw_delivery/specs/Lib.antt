pub mod Seen
pub mod Made
pub mod Waiting
pub mod Delivering
pub mod Calls
pub mod Periods
