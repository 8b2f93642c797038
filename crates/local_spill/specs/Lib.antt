pub mod Ids
pub mod Laying
pub mod Putting
pub mod Reserved
pub mod Spilling
