-- An engine whose phases a team may share, and what a team does.
pub mod Engines
pub mod Helping
