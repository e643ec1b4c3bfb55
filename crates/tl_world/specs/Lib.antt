pub mod Hearing
pub mod Opening
pub mod Premises
pub mod Seen
pub mod Slot
pub mod Stands
pub mod Told
pub mod Turns
