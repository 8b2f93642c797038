pub mod Dues
pub mod Laws
pub mod Left
pub mod Looks
pub mod Turns
