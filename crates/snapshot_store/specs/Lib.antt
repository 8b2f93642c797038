pub mod Parts
pub mod Snapshots
pub mod Views
