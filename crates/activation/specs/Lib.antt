-- What one task creates, and what it changes on its line.
pub mod inner
pub mod Acting
