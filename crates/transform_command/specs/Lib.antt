pub mod Ends
pub mod Manners
pub mod Refusals
pub mod Running
pub mod SourceRefusals
pub mod Sources
pub mod Transforms
