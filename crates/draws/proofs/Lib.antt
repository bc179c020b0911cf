-- Laws that the functions' proofs cite.
pub mod Halves
pub mod Redraw
pub mod ZeroWords
