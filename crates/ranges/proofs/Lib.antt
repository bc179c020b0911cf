-- Laws that the proofs cite, here and in the crates above.
pub mod Bounds
pub mod UpTo
