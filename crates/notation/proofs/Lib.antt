mod Examples
pub mod Digits
pub mod Words
pub mod Written
pub mod Numbers
mod Positions
