pub mod SetUp
pub mod Views
