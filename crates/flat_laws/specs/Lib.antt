pub mod Behind
pub mod FlatMeets
pub mod FlatModule
pub mod Flatten
pub mod OwnUses
pub mod Placed
