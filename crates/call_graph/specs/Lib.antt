pub mod Callers
pub mod Calls
pub mod Entries
pub mod Graph
pub mod Index
pub mod Lists
pub mod Settings
