pub mod Bare
pub mod Norms
