-- Laws that the functions' proofs cite, here and in `fitness`.
pub mod Turns
pub mod Members
