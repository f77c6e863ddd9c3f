pub mod Joined
pub mod Fitting
pub mod SmallMapLemmas
pub mod PairLemmas
pub mod LineLemmas
pub mod Filed
pub mod Coded
pub mod Blocked
mod TokenRoomLemmas
