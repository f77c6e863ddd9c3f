-- What the contracts of the direct engine cite.
pub mod Engines
