pub mod Settled
pub mod Given
pub mod Rows
pub mod Report
pub mod Turns
pub mod Owing
pub mod own
