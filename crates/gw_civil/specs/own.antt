-- What the crate's own functions say: no public contract rests on it.
pub mod Times
