pub mod Access
pub mod Law
pub mod Plan
pub mod Steps
