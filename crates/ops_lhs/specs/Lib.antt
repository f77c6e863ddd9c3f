pub mod LeftSides
pub mod Taking
