pub mod Bytes
pub mod Places
pub mod Refused
pub mod Searching
