-- The networks of the tests.
pub mod Networks
