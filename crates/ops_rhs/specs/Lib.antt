pub mod RightSides
pub mod Taking
