mod Forms
mod Cases
mod Sizes
mod Whole
pub mod Short
mod Examples
