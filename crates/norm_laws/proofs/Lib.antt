pub mod BareRuns
pub mod BareSteps
pub mod Customs
pub mod Locals
pub mod Norms
