-- The program's own words: no public contract rests on them.
pub mod Residual
pub mod Occurring
pub mod Shortest
pub mod Firsts
pub mod Taking
pub mod State
pub mod Tests
pub mod Joining
pub mod Least
pub mod Building
pub mod Judging
pub mod Lending
pub mod Answers
pub mod Walk
pub mod Gathering
pub mod Visiting
pub mod Finding
