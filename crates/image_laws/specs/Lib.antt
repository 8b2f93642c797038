pub mod Example
pub mod HeldPauses
pub mod Image
