pub mod Contents
pub mod Loads
pub mod Ranging
