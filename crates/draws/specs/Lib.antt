-- The definitions that the contracts cite.
pub mod SplitMix64
pub mod Generator
pub mod Draws
pub mod ZeroWords
