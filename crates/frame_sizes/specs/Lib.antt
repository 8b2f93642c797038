pub mod Frames
pub mod Lives
pub mod Points
pub mod Slots
