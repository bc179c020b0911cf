-- Laws that the functions' proofs cite.
pub mod Arms
pub mod Ticks
pub mod Loop
pub mod Types
