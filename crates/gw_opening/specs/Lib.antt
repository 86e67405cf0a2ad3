pub mod Folders
pub mod Begun
pub mod own
