pub mod Ways
pub mod Designated
pub mod Borders
pub mod Operands
pub mod Built
