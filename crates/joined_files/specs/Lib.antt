pub mod Files
pub mod Parts
pub mod Ranges
pub mod Contents
pub mod Loads
