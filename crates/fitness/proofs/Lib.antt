-- Laws that the functions' proofs cite.
mod Clauses
mod Groups
mod Kept
