-- Tasks dealt to shards, a round of these, and an engine at rest.
pub mod Sharing
pub mod Engines
