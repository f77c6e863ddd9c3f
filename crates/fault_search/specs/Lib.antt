pub mod Forms
pub mod Blanks
pub mod First
pub mod Search
