pub mod Titles
pub mod Walks
pub mod Answered
