-- Points of document 01, each file a list of claims: "Points on the grid" that are marked to be proved, the ends of the ranges, the worked example and its account, unfit states,
-- what only states made by hand or rare runs show; and for each clause of the account what it refuses. Document 02's points stand beside them.
pub mod Points
pub mod Ranges
pub mod Worked
pub mod Unfit
pub mod Counted
pub mod Refuted
pub mod Returned
pub mod Rare
pub mod Clock
pub mod Joins
pub mod Words
pub mod Sizes
