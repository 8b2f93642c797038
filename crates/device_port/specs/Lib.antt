pub mod Answers
pub mod InMemory
pub mod Journals
pub mod Kept
pub mod Listed
