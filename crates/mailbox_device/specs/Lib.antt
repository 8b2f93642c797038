pub mod Mail
pub mod Places
