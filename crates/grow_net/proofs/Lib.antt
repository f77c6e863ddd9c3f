pub mod Joined
pub mod Before
pub mod Behind
pub mod Standing
pub mod Growing
pub mod PlaceLemmas
pub mod Whole
pub mod Fronts
