pub mod PausingFunctions
pub mod SlotBounds
pub mod TypingWalks
pub mod WalkPoints
