pub mod Crossing
pub mod Seeing
pub mod Making
pub mod Delivering
pub mod Calling
pub mod Crashing
