pub mod CallLemmas
mod EntriesWith
mod ModuleBytes
pub mod ReachedLemmas
pub mod TestLemmas
