pub mod Bodies
pub mod GeneratedFits
pub mod GeneratedFrames
pub mod GeneratedModules
pub mod GeneratedRuns
pub mod GeneratedSteps
pub mod GeneratedTypes
pub mod Paths
