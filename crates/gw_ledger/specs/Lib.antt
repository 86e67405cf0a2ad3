pub mod Ledgers
pub mod Putting
pub mod Finding
pub mod Accepting
pub mod Backlogs
pub mod Marks
pub mod own
