pub mod Counted
pub mod Fitting
pub mod Nothing
pub mod Splits
pub mod Words
pub mod Written
