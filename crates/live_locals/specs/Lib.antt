pub use Rattle.flow_rewrite.specs.Emitting
pub use Rattle.flow_rewrite.specs.Numbering
pub mod Nests
pub mod Rows
pub mod LiveAt
pub mod Countdown
