-- The definitions that the contracts cite.
pub mod Doubles
pub mod Units
pub mod NewTime
