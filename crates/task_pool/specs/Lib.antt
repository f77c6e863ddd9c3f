-- The meaning of a pool's entries.
pub mod Pools
pub mod Facts
