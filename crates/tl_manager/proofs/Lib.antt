mod Given
pub mod Log
pub mod Low
pub mod Numbers
mod Places
