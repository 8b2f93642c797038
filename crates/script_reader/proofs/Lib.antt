pub mod Closed
pub mod Cut
mod DeclaredNames
pub mod FirstLines
pub mod LastStrands
mod Lists
pub mod Numerals
pub mod Pieces
pub mod Sequences
pub mod Steps
pub mod StrandLists
mod Texts
pub mod Told
