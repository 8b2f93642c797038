pub mod Coming
pub mod Functions
pub mod Gathering
pub mod Inside
pub mod SequenceView
pub mod Steps
pub mod Told
pub mod Walking
