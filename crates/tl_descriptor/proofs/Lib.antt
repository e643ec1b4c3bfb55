mod Apart
pub mod Members
pub mod Order
mod Searches
pub mod SetReading
