-- What the contracts of right sides refer to.
pub mod Asking
pub mod Changed
pub mod Deeds
pub mod Excerpts
pub mod Held
pub mod Outcomes
pub mod State
