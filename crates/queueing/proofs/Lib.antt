-- Laws that the crates above cite.
pub mod Picks
pub mod Parts
