pub mod Grammar
pub mod Line
pub mod Scripts
pub mod Words
