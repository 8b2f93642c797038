pub mod Around
pub mod Instrs
pub mod Locals
pub mod Modules
