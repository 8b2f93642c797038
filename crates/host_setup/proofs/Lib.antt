pub mod IndexTypes
pub mod Found
pub mod Positions
