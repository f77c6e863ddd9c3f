pub mod Balance
pub mod Texts
pub mod Titles
pub mod Rooms
pub mod Sides
pub mod Ways
pub mod Apart
