pub mod Effects
pub mod Faults
pub mod Making
pub mod Rooms
pub mod View
