pub mod Generated
pub mod GeneratedModules
pub mod GeneratedRuns
