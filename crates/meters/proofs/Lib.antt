-- Laws that the functions' proofs cite, and that of the one switch.
mod Fit
pub mod Refusals
pub mod Switches
