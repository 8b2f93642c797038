pub mod Bare
pub mod ByteFaults
pub mod Entries
pub mod Faults
pub mod Layouts
pub mod Taking
pub mod Whole
pub mod WholeBytes
