-- The definitions that the contracts cite, and what they are equal to.
pub mod Meter
pub mod Switches
