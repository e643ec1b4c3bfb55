pub mod Computed
pub mod Grouped
mod Places
mod Past
pub mod Known
pub mod Kept
mod Ended
mod Promised
