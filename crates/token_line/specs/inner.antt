-- How the code keeps its lists: nothing here defines what a line means.
pub mod Pairs
pub mod SmallMap
pub mod SmallMapLends
pub mod TokenRooms
pub mod Codes
pub mod Spots
