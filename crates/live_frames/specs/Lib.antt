pub mod Digits
pub mod Ends
pub mod Putting
pub mod Rows
