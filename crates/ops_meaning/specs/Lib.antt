pub mod Effects
pub mod Layout
pub mod Computing
pub mod Acting
pub mod Partials
pub mod Running
pub mod Kept
