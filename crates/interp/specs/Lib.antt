pub mod Host
pub mod Instance
pub mod Restoring
pub mod Runs
pub mod StackRooms
pub mod Stacks
pub mod Told
pub mod WaitRooms
