pub mod Words
pub mod CommandLine
pub mod Usage
pub mod Laws
