pub mod Moments
mod Losing
pub mod Batches
mod Ends
pub mod Crash
mod Ways
mod Entries
pub mod Places
pub mod Sound
pub mod Logs
pub mod Turning
pub mod Placing
pub mod Retiring
pub mod Founding
pub mod Denying
pub mod Alike
