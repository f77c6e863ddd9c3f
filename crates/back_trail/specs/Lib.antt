-- What the contracts of the trail cite.
pub mod Marks
pub mod Trails
pub mod Kept
