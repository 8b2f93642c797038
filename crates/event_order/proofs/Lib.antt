pub mod Leasts
pub mod Outs
pub mod Showing
