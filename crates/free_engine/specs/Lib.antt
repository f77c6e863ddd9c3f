-- An engine between two settles, what workers do with the pool and the lines, and what results.
pub mod Fitting
pub mod Phased
pub mod Drained
pub mod Slots
pub mod Tables
pub mod Counts
pub mod Turns
pub mod SetUp
pub mod Ends
pub mod Openings
pub mod Teams
