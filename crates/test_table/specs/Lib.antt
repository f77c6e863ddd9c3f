pub mod Decisions
pub mod Passing
