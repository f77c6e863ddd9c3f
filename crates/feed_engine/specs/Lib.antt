-- What the contracts of a phase that settles several times refer to.
pub mod Feeding
pub mod Lent
