pub mod Walks
pub mod Once
pub mod PartialMatches
pub mod Explanations
pub mod Agreement
pub mod Instantiations
pub mod KnownLaws
