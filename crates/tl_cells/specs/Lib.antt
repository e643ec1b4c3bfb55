pub mod Cells
pub mod Memory
pub mod Outcome
pub mod Place
pub mod Serves
pub mod StateCode
