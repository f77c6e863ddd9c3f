pub mod Outside
pub mod Memory
pub mod Output
pub mod Ports
pub mod Input
pub mod Coming
