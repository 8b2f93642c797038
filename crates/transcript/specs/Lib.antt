pub mod Printing
pub mod Refused
pub mod StrandLines
