pub mod Faults
pub mod Outboxes
pub mod Forwards
pub mod own
