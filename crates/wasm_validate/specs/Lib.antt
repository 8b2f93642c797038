pub mod Outside
pub mod Validated
pub mod Walk
