pub mod Partials
pub mod Bindings
pub mod Explaining
pub mod Checking
