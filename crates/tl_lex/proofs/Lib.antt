pub mod Digits
pub mod Found
pub mod Fronts
pub mod Texts
pub mod Turns
