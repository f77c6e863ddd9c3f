pub mod Prefixes
