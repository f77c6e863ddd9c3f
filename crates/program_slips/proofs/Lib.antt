pub mod Walking
pub mod Excluding
pub mod Meeting
pub mod Adding
pub mod Stepping
pub mod Going
pub mod Computed
