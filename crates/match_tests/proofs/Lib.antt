-- That networks of the tests are sound.
pub mod Soundness
