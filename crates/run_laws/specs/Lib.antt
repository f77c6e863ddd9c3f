-- What the laws of running refer to.
pub mod Programs
pub mod Beginning
pub mod Ending
pub mod Finding
pub mod Elements
pub mod Placing
pub mod Firings
pub mod Cuts
pub mod Patterns
pub mod Ranking
pub mod Computing
pub mod Predicates
pub mod Standing
pub mod Telling
pub mod Excising
pub mod Undoing
