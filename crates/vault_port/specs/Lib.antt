pub mod Counts
pub mod Told
pub mod Files
pub mod Taken
