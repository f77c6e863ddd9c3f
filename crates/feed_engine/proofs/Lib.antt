pub mod Combined
pub mod Going
pub mod Grown
pub mod Pieces
pub mod Places
pub mod Searched
pub mod Told
pub mod Whole
