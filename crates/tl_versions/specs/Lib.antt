pub mod Bears
pub mod Cell
pub mod Reading
pub mod Versions
pub mod VersionReading
