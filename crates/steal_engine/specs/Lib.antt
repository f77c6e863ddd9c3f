-- Lines in cells, deques of a team, and what all workers did together.
pub mod Phased
pub mod Opened
pub mod Rows
pub mod Logged
pub mod Rests
pub mod Ring
pub mod Seats
pub mod Sums
pub mod Team
