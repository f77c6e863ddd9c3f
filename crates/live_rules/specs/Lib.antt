pub mod Moves
pub mod Renewing
