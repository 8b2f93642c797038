pub mod Command
pub mod Script
pub mod ScriptLines
pub mod ScriptText
pub mod Spelled
pub mod Transcript
