-- What the contracts of the index of the conflict set refer to.
pub mod Indexed
pub mod Applying
pub mod Selecting
pub mod Marks
pub mod Rank
pub mod Ranking
pub mod Keeping
