pub mod Shown
pub mod Split
