-- How the code computes a node's output: nothing here defines what is right.
pub mod Putting
pub mod Negating
pub mod Effects
pub mod Children
