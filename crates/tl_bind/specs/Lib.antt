pub mod Change
pub mod Condition
pub mod Expression
pub mod Law
pub mod Place
pub mod Select
pub mod Values
