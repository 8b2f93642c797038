mod BehindCalls
pub mod Calls
pub mod Depths
mod Example
pub mod FlatModules
pub mod GotLemmas
mod Heights
mod Items
pub mod LiveFlat
pub mod OperandTypes
pub mod OwnLemmas
pub mod PrunedFlat
pub mod RuntimeModules
pub mod Sizes
pub mod StackReads
mod Statements
pub mod TableLabels
pub mod Typing
pub mod ValidModules
pub mod Whole
pub mod WiderCode
