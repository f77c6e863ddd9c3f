pub mod WhyLines
pub mod Explained
