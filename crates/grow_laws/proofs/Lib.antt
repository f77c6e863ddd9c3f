pub mod Balance
pub mod Rest
pub mod Runs
pub mod DueTasks
