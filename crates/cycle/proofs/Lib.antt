pub mod Stores
pub mod Above
pub mod Members
pub mod HeldAfter
pub mod Marks
pub mod Phases
pub mod Standings
pub mod Firings
