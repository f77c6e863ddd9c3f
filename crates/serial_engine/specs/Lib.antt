-- A phase in progress, and an engine at rest.
pub mod Engines
pub mod Running
pub mod Carrying
