pub mod Judging
pub mod Order
