pub mod MarkLaws
pub mod TrailLaws
pub mod SoundLaws
pub mod Named
pub mod Going
