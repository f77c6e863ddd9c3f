pub mod Codes
pub mod Chained
pub mod Linked
pub mod Children
pub mod Rights
pub mod Built
