pub mod Acts
mod BlockingForks
pub mod BlockingRuns
pub mod Bytes
pub mod CallArgs
pub mod Counted
pub mod Ending
pub mod Exported
mod Faults
mod Forks
pub mod Growing
pub mod Host
pub mod Keeping
pub mod LawfulPauses
mod ListedRuns
pub mod NotEach
pub mod Numbers
pub mod Openings
pub mod Operators
pub mod OwnEnds
pub mod PlanParts
mod ProtocolForks
pub mod ProtocolRuns
pub mod ProtocolStopping
pub mod RewrittenByHand
pub mod RuntimeTyped
pub mod Seeing
pub mod Silence
pub mod Sizes
pub mod SpotPlaces
pub mod SpotRuns
pub mod SpotSteps
pub mod Spots
pub mod StandingPauses
pub mod StandingStates
pub mod StandingSteps
pub mod Steps
pub mod Stopping
pub mod Stretches
mod UnlistedEnds
pub mod UntoldRuns
