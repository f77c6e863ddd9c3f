-- What the contracts of the recognise-act cycle refer to.
pub mod Settles
pub mod Slots
pub mod States
pub mod Standing
