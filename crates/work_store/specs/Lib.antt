-- What the contracts of working memory's store cite.
pub mod Rows
pub mod Slots
pub mod Stored
pub mod Settling
