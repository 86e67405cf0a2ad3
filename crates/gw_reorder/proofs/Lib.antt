pub mod Places
pub mod Slots
pub mod Giving
pub mod Steps
pub mod Runs
