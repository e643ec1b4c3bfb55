pub mod Input
pub mod Promise
pub mod Status
pub mod Words
