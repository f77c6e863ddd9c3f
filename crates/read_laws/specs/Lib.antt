-- Small texts, and what they are read as.
pub mod Texts
pub mod LeftSides
pub mod RightSides
pub mod Commands
pub mod Options
pub mod Groups
pub mod Faults
