pub mod Sessions
pub mod own
