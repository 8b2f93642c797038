pub mod Bodies
pub mod Calls
pub mod Frames
pub mod Layouts
pub mod Marking
pub mod WrittenFrames
