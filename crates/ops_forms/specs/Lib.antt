pub mod Firsts
pub mod Forms
pub mod WordWalks
pub mod Noted
pub mod Sights
pub mod PlaceWalks
pub mod Pairs
pub mod Keywords
