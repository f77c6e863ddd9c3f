-- The steps of a match, their laws, and the world in which the code takes the steps.
pub mod Machine
pub mod Phases
pub mod Rounds
pub mod Laws
pub mod Feeding
pub mod inner
pub mod Worlds
pub mod Working
pub mod Found
pub mod Settling
