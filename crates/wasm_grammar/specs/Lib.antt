pub mod Ends
pub mod Forms
pub mod Goals
pub mod Input
pub mod Items
pub mod Machine
pub mod Passing
pub mod Places
