pub mod Asserting
pub mod Emitting
pub mod Testing
