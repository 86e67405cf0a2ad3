pub mod Asking
pub mod Judging
pub mod Arriving
pub mod Meeting
