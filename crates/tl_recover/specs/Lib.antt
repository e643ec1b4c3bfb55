pub mod Duties
pub mod Heeds
pub mod Taken
pub mod Doing
pub mod Follows
