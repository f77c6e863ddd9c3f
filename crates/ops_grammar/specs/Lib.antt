-- What is read as a program, and what as a fault.
pub mod Words
pub mod Places
pub mod Grammar
pub mod Derivation
pub mod Reads
pub mod Reasons
pub mod Standing
pub mod TextNames
pub mod Spelling
