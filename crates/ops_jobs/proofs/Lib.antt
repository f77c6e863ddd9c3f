pub mod EachOption
pub mod Limits
mod Spelling
pub mod Flags
mod Rows
