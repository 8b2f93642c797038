pub mod BranchLemmas
pub mod CallLemmas
pub mod ComingLemmas
pub mod ConstructLemmas
pub mod EndLemmas
mod FixedLemmas
pub mod FunctionLemmas
pub mod GatherLemmas
mod GuardLemmas
pub mod IfLemmas
pub mod InsideLemmas
pub mod MoveLemmas
pub mod NestLemmas
pub mod OpLemmas
pub mod PieceLemmas
pub mod SequenceLemmas
pub mod SingleLemmas
pub mod StackLemmas
pub mod StepLemmas
mod ToldLemmas
pub mod UnitLemmas
pub mod WalkLemmas
