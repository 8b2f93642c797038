pub mod Alone
pub mod BadPokes
pub mod MetLines
pub mod Stretches
pub mod Tellings
