-- The definitions that the contracts cite.
pub mod Toggler
pub mod Queue
