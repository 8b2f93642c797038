pub mod Fetching
pub mod Pieces
pub mod Telling
