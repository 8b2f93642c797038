pub mod BeginningLemmas
pub mod CaseLemmas
pub mod FloatFile
pub mod PauseLemmas
pub mod RoundTrips
