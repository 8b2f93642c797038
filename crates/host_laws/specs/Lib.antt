pub mod Answering
pub mod Laws
pub mod Places
pub mod Stories
pub mod Stretch
pub mod Supplies
