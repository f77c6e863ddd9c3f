pub mod Command
pub mod Found
