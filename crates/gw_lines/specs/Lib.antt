pub mod Words
pub mod Spelled
pub mod Values
pub mod Parts
pub mod Reading
pub mod Seen
pub mod Expected
pub mod Grammar
