pub mod Counts
pub mod Joined
pub mod LineTexts
pub mod Printed
pub mod StrandTexts
