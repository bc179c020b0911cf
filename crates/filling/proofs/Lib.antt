mod Putting
mod Running
mod Ending
pub mod Left
pub mod Few
