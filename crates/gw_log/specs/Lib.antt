pub mod Disk
pub mod Numbers
pub mod File
pub mod History
pub mod State
pub mod Chain
pub mod Opening
pub mod own
