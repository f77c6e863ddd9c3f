pub mod Deliveries
pub mod Answering
pub mod Translating
pub mod Words
pub mod Reading
