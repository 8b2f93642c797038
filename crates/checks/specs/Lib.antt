pub mod Again
pub mod Analysis
pub mod Beginnings
pub mod Faults
pub mod Files
pub mod Images
pub mod Lists
pub mod Rows
