-- Laws of doubles and of tests, for the crates above.
pub mod Comparisons
pub mod Nan
pub mod Order
pub mod Ranges
pub mod Tested
pub mod Uniform
pub mod Values
