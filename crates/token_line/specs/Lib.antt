-- Signed tokens, the lines that hold them, and the numbers of the lines.
pub mod Bags
pub mod Numbers
pub mod Held
pub mod OneLine
pub mod inner
pub mod Sums
pub mod Lines
pub mod Lawful
pub mod Coded
pub mod Joins
