-- Lines that hold the tokens of an older network.
pub mod Growing
pub mod Due
