pub mod Civil
pub mod own
