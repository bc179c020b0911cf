-- The definitions that the contracts cite.
pub mod Ring
pub mod Link
