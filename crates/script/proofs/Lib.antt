pub mod Ends
mod Digits
