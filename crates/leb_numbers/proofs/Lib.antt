pub mod LebAnswers
pub mod LebLemmas
pub mod SignedReads
pub mod SignedSpelling
pub mod UnsignedReads
pub mod UnsignedSpelling
