-- Laws that the functions' proofs and the crates above cite.
pub mod Least
pub mod Pick
pub mod NewTimes
