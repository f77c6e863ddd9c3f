-- Lemmas: first lists and rows, then what each kind of step does to the rule.
pub mod Lists
pub mod Rows
pub mod Weights
pub mod Counting
pub mod Moves
pub mod Claims
pub mod Gives
pub mod Rests
pub mod Parts
pub mod Bounds
