pub mod Answers
pub mod FilePieces
pub mod Held
pub mod Locals
pub mod Marking
pub mod Pieces
pub mod Progress
