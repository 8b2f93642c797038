mod CommandMet
mod Ending
pub mod Exact
mod Failing
pub mod Meanings
mod Placing
mod Rows
mod Stepping
mod Steps
mod Telling
mod Views
pub mod Walking
mod WordCases
