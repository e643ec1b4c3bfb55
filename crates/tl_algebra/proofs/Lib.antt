mod Aggregates
pub mod Chains
mod Determined
pub mod Each
mod Groups
mod Growing
mod LineOrder
mod LinesOn
mod Places
pub mod Reorders
mod Shuffles
mod Truths
