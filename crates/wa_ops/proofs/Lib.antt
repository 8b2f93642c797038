pub mod BitCounts
pub mod OperateLemmas
pub mod Shifts
