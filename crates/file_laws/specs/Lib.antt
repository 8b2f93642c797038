pub mod Found
pub mod Showing
