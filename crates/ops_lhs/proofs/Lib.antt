pub mod Borders
pub mod Rooms
pub mod Ways
