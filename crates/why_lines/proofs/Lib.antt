pub mod Texts
pub mod OneText
pub mod Explained
pub mod Sums
