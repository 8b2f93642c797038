pub mod BodyVerdicts
pub mod Judging
pub mod Running
pub mod Spaces
pub mod Stack
pub mod Table
