pub mod Access
pub mod Integers
pub mod Loads
pub mod Operate
pub mod Types
