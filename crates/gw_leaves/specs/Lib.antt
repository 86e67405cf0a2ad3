pub mod Leaves
pub mod Counts
pub mod Components
pub mod Reached
pub mod Texts
pub mod Context
pub mod Uses
pub mod own
