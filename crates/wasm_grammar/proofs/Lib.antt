pub mod Cursors
pub mod Faults
pub mod GoalStacks
pub mod ItemFronts
pub mod LowNumbers
pub mod Marking
pub mod OpcodeRows
pub mod PieceEnds
pub mod ShortItems
mod Walks
pub mod WholeOpcodes
