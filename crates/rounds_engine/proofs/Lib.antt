pub mod Crossing
pub mod Boundaries
pub mod Dealing
pub mod Joining
pub mod Halving
pub mod Results
pub mod Sharing
pub mod Carried
