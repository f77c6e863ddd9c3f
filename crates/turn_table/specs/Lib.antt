-- What the contracts of cells, passes and turns state.
pub mod Log
pub mod Views
pub mod Rule
pub mod Steps
pub mod Ends
pub mod Turns
