pub mod Differing
pub mod NothingFound
pub mod Beginnings
