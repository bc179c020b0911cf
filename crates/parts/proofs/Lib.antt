-- Laws that the proofs cite, here and in `builder`.
pub mod Making
