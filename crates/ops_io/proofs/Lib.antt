pub mod Known
pub mod MemoryLemmas
pub mod PortLemmas
pub mod ComingLemmas
