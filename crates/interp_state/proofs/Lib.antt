pub mod LoadLemmas
pub mod MakeLemmas
pub mod MapLemmas
pub mod OperandLemmas
pub mod ProgramLemmas
pub mod RoomLemmas
pub mod TypeLemmas
