pub mod Emitting
pub mod Numbers
pub mod Surveying
pub mod Whole
