pub mod FrameLemmas
pub mod LiveLemmas
pub mod PointLemmas
pub mod SavedLemmas
mod SlotLemmas
mod TypeLemmas
pub mod VisitLemmas
