-- What workers with a deque each do together.
pub mod Fairly
pub mod Totals
pub mod Turning
pub mod Weighing
pub mod Draining
pub mod Lined
pub mod Grown
pub mod Crossing
pub mod Logging
pub mod Balanced
pub mod Rings
pub mod Opening
pub mod Results
