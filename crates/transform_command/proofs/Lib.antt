pub mod Accepted
mod NormWithAsserts
pub mod OneEnd
pub mod OneOriginal
pub mod Outlines
pub mod Printed
pub mod Transforming
pub mod Verdicts
