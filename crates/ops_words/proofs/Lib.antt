mod Lookups
mod Seeing
mod FoundRows
mod Turns
mod Ends
mod Endings
mod Uses
mod Walks
pub mod Finding
pub mod Jobs
pub mod Building
pub mod Spelled
