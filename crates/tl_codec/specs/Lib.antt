pub mod Fields
pub mod Reading
pub mod Sized
pub mod Taken
