pub mod Places
pub mod Reading
pub mod RunReading
pub mod Runs
pub mod Tids
