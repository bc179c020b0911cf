-- A law of the definitions.
pub mod Joins
