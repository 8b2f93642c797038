pub mod Cases
pub mod StayingOff
