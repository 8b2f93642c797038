pub mod AroundLemmas
pub mod Codes
pub mod EntryCounts
pub mod ModuleLemmas
pub mod Runs
pub mod SectionLemmas
pub mod SingleBytes
pub mod Vectors
