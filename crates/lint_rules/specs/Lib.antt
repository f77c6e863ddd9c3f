pub mod Texts
pub mod Spelled
pub mod Slips
pub mod Walks
pub mod SmallTexts
