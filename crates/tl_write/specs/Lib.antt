pub mod Change
pub mod Fault
pub mod Law
pub mod Own
pub mod Place
pub mod Places
pub mod Progress
pub mod Tables
