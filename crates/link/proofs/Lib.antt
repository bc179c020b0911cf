-- Laws that the functions' proofs and the crates above cite.
pub mod Items
pub mod Limits
pub mod NewTimes
