pub mod Bind
pub mod Define
