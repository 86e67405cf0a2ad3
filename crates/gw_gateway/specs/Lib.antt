pub mod Routing
pub mod Plans
pub mod Faults
pub mod Waiting
pub mod Senders
pub mod own
