pub mod Arriving
pub mod Joining
pub mod Answering
pub mod Naming
pub mod Routing
pub mod Crossing
