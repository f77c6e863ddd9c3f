-- Networks appended to others.
pub mod Behind
