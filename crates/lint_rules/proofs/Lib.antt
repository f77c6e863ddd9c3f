pub mod Walking
pub mod Computed
