pub mod AssertedModules
pub mod AssertedRoles
pub mod AssertedUnits
pub mod Beside
pub mod EmittedWithAsserts
pub mod Links
