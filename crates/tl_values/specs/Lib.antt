pub mod Fault
pub mod Key
pub mod Reading
pub mod Value
