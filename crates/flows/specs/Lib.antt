-- The definitions that the contracts cite.
pub mod Sums
pub mod Average
