pub mod Parts
pub mod Remarks
pub mod Report
pub mod Whole
pub mod Calls
pub mod Codes
pub mod Translated
