-- The text of the generated workload.
pub mod Workload
