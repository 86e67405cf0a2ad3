pub mod Fronts
pub mod Decimals
pub mod Texts
pub mod Taken
pub mod Valued
