-- The proofs of the points.
pub mod Claims
pub mod Points
pub mod Ranges
pub mod Worked
pub mod Unfit
pub mod Counted
pub mod Follows
pub mod Once
pub mod Refuted
pub mod Returned
pub mod Rare
pub mod Clock
pub mod Joins
pub mod Words
pub mod Unread
pub mod Sizes
