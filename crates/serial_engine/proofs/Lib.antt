pub mod StepLemmas
pub mod StartLemmas
pub mod PhaseLemmas
pub mod SettleLemmas
pub mod GrowLemmas
pub mod Carried
pub mod Crossing
