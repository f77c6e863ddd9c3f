pub mod KeyLaws
pub mod SameKeys
pub mod Downwards
pub mod Halves
