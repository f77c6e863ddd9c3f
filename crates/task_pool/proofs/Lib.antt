pub mod PoolLaws
pub mod Plays
